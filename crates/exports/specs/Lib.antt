pub mod Codes
pub mod BookCodes
pub mod TapCodes
