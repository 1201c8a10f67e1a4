pub mod PartNames
pub mod Made
pub mod Sums
pub mod Rows
pub mod Sizes
mod Numbers
mod Shares
pub mod Placing
pub mod Terms
pub mod Filling
