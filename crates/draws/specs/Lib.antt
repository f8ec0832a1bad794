pub mod Draws
pub mod Figures
