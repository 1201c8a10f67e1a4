pub mod Bytes
pub mod Cuts
pub mod First
pub mod Row
pub mod Tokens
