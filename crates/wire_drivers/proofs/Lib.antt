mod Counts
mod Ranges
mod Agrees
