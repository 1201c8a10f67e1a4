pub mod Items
pub mod Ports
pub mod Prefixes
pub mod Texts
