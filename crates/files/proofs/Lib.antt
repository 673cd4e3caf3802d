pub mod Fates
pub mod Naming
