pub mod Centred
pub mod Judging
pub mod Opened
pub mod Sizes
pub mod Uses
pub mod Valued
pub mod Places
