pub mod Value
pub mod Scaled
pub mod Range
pub mod CodeTests
pub mod Rounding
