pub mod Examples
pub mod Takes
