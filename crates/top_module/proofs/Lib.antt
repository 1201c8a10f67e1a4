pub mod Added
pub mod Numbering
pub mod Placed
pub mod Grown
