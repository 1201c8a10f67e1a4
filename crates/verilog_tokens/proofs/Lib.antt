pub mod ByteKinds
pub mod Constants
pub mod Gaps
pub mod Longest
pub mod TokenRow
pub mod Runs
pub mod Steps
