pub mod Opened
pub mod Centring
pub mod Plans
pub mod Extents
pub mod Passing
pub mod Briefs
