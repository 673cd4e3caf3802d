pub mod Opened
pub mod Starting
pub mod Examples
