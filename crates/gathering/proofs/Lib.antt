pub mod Taken
pub mod Arranged
pub mod Found
