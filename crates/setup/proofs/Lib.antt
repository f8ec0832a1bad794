pub mod Start
pub mod Bounds
