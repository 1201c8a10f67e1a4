pub mod ShareWires
