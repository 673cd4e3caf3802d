pub mod Settings
pub mod CycleWords
pub mod Target
pub mod Bounds
