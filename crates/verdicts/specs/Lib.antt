pub mod Verdict
pub mod Cells
