pub mod Lines
pub mod Text
pub mod Turns
pub mod ArcText
