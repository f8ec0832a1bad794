pub mod ChaCha
pub mod Lanes
