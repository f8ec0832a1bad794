pub mod Filling
pub mod Placing
pub mod Ids
pub mod Figures
pub mod Walk
pub mod Order
pub mod Bank
pub mod Plans
