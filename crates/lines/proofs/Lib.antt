pub mod Opened
pub mod Lines
pub mod Laws
pub mod Comments
