pub mod Ends
pub mod Exact
pub mod Entry
pub mod Corner
pub mod Least
pub mod Top
