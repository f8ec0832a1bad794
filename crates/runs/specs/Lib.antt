pub mod Shelf
pub mod Run
