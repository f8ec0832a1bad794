pub mod Splice
pub mod Numbers
pub mod Tests
pub mod Made
