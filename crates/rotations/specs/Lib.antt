pub mod Atan
pub mod Table
pub mod Rotate
pub mod Room
