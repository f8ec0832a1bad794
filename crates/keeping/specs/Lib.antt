pub mod Server
pub mod Table
