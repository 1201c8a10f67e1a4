pub mod Bytes
pub mod Constants
pub mod Cuts
pub mod First
pub mod Gaps
pub mod Row
pub mod Token
pub mod View
