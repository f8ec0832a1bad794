pub mod Laying
pub mod Gathering
pub mod Carried
pub mod Ready
pub mod Rows
