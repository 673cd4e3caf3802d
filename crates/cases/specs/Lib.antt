pub mod Budgets
pub mod Cases
