pub mod Parting
pub mod Choosing
