pub mod Walk
pub mod Rest
pub mod Ready
pub mod Ports
pub mod Bound
