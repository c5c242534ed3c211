pub mod Verdict
pub mod Judge
pub mod Settle
pub mod Decision
pub mod Exact
pub mod Limits
