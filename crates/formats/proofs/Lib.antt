pub mod Unmarked
pub mod Passed
pub mod Written
pub mod Formatted
