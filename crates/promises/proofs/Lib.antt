pub mod Opened
pub mod Duplicates
pub mod Comments
pub mod ReadBack
pub mod Examples
