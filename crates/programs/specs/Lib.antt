pub mod Openings
pub mod Found
pub mod Examples
pub mod Places
pub mod Answers
