pub mod Words
pub mod Command
pub mod Found
pub mod Compared
pub mod Answer
pub mod Left
pub mod Seed
