pub mod Heads
pub mod Sides
pub mod Climb
pub mod Turn
pub mod Agree
