pub mod Sharing
pub mod Inputs
pub mod Cycles
pub mod Rows
pub mod Filled
pub mod SharedTape
pub mod Driven
