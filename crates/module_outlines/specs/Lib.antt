pub mod Outlines
pub mod View
