pub mod Spaces
pub mod Digits
pub mod Capitals
pub mod Tails
pub mod Cuts
pub mod Arms
