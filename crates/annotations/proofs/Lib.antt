pub mod Index
pub mod Reached
pub mod Marking
pub mod Verdict
pub mod Marked
pub mod ClockMark
