pub mod Blocks
pub mod Serving
pub mod Gaps
pub mod Comments
pub mod Alike
pub mod Closing
