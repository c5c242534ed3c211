pub mod Units
pub mod Exact
pub mod Limits
