pub mod Steps
pub mod Finish
pub mod Laying
pub mod Carried
pub mod Ready
