mod Gives
mod Instances
mod Marked
mod Steps
mod Quiet
