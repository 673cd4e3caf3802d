pub mod Opened
pub mod Verdicts
pub mod Small
pub mod Judged
pub mod Found
pub mod Ready
pub mod Written
