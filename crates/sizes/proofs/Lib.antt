pub mod Lengths
pub mod Buckets
pub mod Rows
