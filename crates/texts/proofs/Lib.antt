pub mod Places
pub mod Worths
