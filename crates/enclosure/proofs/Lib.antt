pub mod Halving
pub mod Searches
pub mod Encloses
pub mod Narrow
pub mod CodeAnswer
pub mod CodeLoop
