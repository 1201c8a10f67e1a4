pub mod Entries
pub mod Fronts
mod Taken
