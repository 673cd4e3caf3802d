pub mod Layout
pub mod Reading
pub mod Path
pub mod Writing
pub mod Displacing
pub mod Serving
