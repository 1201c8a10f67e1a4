pub mod Events
pub mod Items
pub mod Reads
pub mod State
