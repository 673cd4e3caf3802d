pub mod Walk
pub mod Run
pub mod Serving
pub mod Examples
