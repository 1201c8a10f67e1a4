pub mod Clocked
pub mod Rules
pub mod Spread
pub mod Asked
