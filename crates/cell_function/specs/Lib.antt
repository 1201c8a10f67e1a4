pub mod Cuts
pub mod Grammar
pub mod Parts
pub mod Reading
pub mod Tree
