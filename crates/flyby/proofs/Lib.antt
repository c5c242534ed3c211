pub mod Answered
pub mod Exact
pub mod Posed
pub mod Products
