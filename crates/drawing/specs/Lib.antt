pub mod Shapes
pub mod Walks
pub mod Picture
