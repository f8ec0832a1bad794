pub mod Steps
pub mod Frames
