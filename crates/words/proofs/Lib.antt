pub mod Bounds
pub mod Opened
pub mod Numbers
pub mod Packed
pub mod Worth
pub mod Figures
