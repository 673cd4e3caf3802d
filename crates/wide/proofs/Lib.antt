pub mod Multiplying
pub mod Dividing
