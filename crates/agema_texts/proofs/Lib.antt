mod Tops
mod OpenClock
mod Originals
pub mod Ends
mod PortNames
mod Written
mod Same
mod Stimuli
mod Readings
mod Costs
mod Audits
mod Probes
mod AnyOrder
pub mod Comparings
