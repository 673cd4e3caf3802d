pub mod Digits
pub mod Filled
pub mod Blanks
pub mod Turned
pub mod ArcParts
