pub mod OneRead
pub mod Turns
pub mod Passed
