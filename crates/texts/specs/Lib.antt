pub mod Texts
pub mod Figures
