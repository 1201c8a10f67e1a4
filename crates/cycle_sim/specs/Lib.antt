pub mod Fits
pub mod Told
pub mod HasRun
pub mod Moved
