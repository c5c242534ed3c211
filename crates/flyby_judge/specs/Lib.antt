pub mod Judge
pub mod Decision
pub mod Limits
