pub mod Limits
pub mod Frame
pub mod Fair
pub mod Examples
pub mod Faults
