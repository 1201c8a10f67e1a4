pub mod Written
pub mod Asked
pub mod Answer
pub mod Fit
