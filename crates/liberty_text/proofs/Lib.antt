pub mod Gaps
mod Longest
pub mod Row
pub mod Rows
pub mod Runs
