pub mod Bits
pub mod Sites
pub mod Design
pub mod Lines
