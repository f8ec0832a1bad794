pub mod Ranges
pub mod TextRead
pub mod TextWritten
