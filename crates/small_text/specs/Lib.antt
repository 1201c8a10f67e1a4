pub mod Bytes
pub mod Cuts
pub mod First
pub mod Grammar
pub mod Layout
pub mod Written
