pub mod Checks
pub mod Laws
pub mod Turns
