pub mod Json
pub mod Finds
