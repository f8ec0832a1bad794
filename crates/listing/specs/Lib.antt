pub mod Listing
pub mod Writer
