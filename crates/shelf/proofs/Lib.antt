pub mod Long
pub mod Between
