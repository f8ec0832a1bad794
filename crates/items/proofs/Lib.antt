pub mod Fields
pub mod Digest
pub mod Sealing
pub mod Sound
pub mod Way
