pub mod Opened
pub mod Tables
