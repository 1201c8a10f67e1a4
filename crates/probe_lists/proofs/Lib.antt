pub mod Tables
pub mod Parts
pub mod Fitting
pub mod OneList
