pub mod Signed
pub mod Lengths
pub mod Book
pub mod TapAnswers
