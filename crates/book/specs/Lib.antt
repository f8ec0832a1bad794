pub mod MatrixRow
