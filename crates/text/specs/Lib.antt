pub mod Text
pub mod Fronts
