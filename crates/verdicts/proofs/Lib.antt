pub mod Name
pub mod GoodRecord
pub mod Readable
pub mod Written
pub mod Laws
pub mod Cell
pub mod Counting
