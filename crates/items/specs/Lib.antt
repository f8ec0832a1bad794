pub mod Items
pub mod Way
pub mod Real
