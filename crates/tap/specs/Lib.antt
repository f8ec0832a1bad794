pub mod Tap
