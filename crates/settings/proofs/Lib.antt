pub mod Opened
pub mod Near
pub mod Keeping
pub mod Starting
