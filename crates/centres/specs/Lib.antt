pub mod Centres
pub mod Bounds
pub mod Nearness
pub mod Sides
pub mod Examples
