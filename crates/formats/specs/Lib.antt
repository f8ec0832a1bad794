pub mod Format
pub mod Fits
