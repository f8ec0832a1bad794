pub mod Opening
pub mod Walk
