pub mod Common
pub mod Terms
