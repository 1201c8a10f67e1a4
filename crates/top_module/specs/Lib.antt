pub mod Top
pub mod Marks
pub mod Ports
pub mod Bound
pub mod Steps
