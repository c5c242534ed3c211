pub mod Sinh
pub mod Entry
pub mod Adding
