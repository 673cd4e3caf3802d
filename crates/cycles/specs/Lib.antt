pub mod Cycles
pub mod Bounds
