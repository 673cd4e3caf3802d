pub mod Walking
pub mod Fitting
