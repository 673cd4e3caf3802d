pub mod Root
pub mod Turning
pub mod Arcs
pub mod Staying
pub mod Bounds
pub mod Exact
