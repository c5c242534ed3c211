pub mod Posed
pub mod Possible
pub mod OnGrid
