pub mod Work
pub mod Needs
