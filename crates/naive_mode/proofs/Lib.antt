mod Marking
mod LaidRows
mod Standing
mod Carrying
mod Costing
mod MadeGraph
