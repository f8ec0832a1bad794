pub mod OneEntry
pub mod PassTurns
pub mod Whole
