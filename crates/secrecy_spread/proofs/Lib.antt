pub mod Reaching
pub mod WireSecrets
pub mod NodesTold
pub mod Agreed
