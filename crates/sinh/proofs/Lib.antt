pub mod Answers
pub mod CodeAdd
pub mod Exact
pub mod Limits
