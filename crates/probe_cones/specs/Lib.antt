pub mod Shares
pub mod Cone
pub mod Inputs
pub mod Laws
pub mod Observing
pub mod Origins
pub mod Walk
