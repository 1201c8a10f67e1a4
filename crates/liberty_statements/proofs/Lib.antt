pub mod Again
mod Closes
pub mod Found
mod Heads
pub mod Less
pub mod Many
mod NextArg
mod Skips
pub mod Steps
