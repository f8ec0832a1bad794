pub mod Bitwise
pub mod Choose
pub mod Rotations
pub mod Schedule
pub mod Window
pub mod Rounds
pub mod Blocks
pub mod Bytes
