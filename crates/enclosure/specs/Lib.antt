pub mod Halving
pub mod Enclosure
pub mod Moves
