pub mod Common
pub mod Laws
pub mod Opened
pub mod Examples
