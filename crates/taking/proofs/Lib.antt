pub mod Numbered
pub mod OneLine
pub mod Turns
