pub mod Letters
pub mod Judging
pub mod Sizes
pub mod Places
