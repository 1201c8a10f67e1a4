pub mod Order
pub mod Product
pub mod Grown
pub mod Sound
