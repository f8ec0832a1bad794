pub mod Sizes
pub mod Places
pub mod Refusals
pub mod Figures
