pub mod Bools
pub mod First
pub mod Order
pub mod Parts
pub mod CodeRoom
pub mod Round
pub mod Table
