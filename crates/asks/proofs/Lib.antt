pub mod Passed
pub mod Opened
pub mod Answers
