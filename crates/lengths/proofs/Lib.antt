pub mod Four
pub mod Laws
pub mod Ring
pub mod Tests
pub mod Near
pub mod Opened
