pub mod Numbers
pub mod Shown
pub mod Order
pub mod Same
pub mod Last
