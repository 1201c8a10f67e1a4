pub mod Passed
pub mod Least
pub mod Planned
