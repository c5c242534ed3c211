pub mod Ends
pub mod Entry
pub mod Posed
