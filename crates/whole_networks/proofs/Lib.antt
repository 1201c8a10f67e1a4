pub mod Headers
pub mod Wholeness
pub mod Named
pub mod Renumbering
pub mod RenumberedNetwork
pub mod RenumberedWell
