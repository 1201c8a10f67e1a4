mod Runs
mod Widths
