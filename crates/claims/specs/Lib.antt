pub mod Blockwise
pub mod Travel
pub mod Answers
pub mod Displaced
pub mod Examples
pub mod Plate
