pub mod NodeValues
pub mod Cycles
