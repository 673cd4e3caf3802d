pub mod Units
pub mod View
pub mod Serving
pub mod Points
pub mod Near
