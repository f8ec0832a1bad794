pub mod Fronts
pub mod Found
pub mod Bounds
