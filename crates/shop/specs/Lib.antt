pub mod Asking
pub mod Knowing
