mod Again
mod Found
mod Left
mod Row
pub mod Whole
