pub mod More
pub mod Added
pub mod Made
pub mod Whole
pub mod Streams
