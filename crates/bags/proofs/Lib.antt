pub mod Bags
pub mod All
pub mod Those
pub mod Perm
