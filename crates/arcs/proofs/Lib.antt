pub mod Root
pub mod Reach
pub mod Extremes
pub mod Paths
pub mod Opened
pub mod Examples
