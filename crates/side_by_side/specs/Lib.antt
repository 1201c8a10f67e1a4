pub mod Pairs
pub mod Beside
pub mod Text
