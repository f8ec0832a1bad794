pub mod Sha2
pub mod Sha256
pub mod Turns
