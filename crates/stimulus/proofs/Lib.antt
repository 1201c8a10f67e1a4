pub mod Lists
pub mod Causes
pub mod Fitting
pub mod Json
pub mod Named
pub mod OneText
pub mod Placed
pub mod Rows
