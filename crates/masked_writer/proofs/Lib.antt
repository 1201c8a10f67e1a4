pub mod OneAnswer
pub mod OneReport
pub mod Stated
pub mod Texts
pub mod Words
