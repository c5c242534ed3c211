pub mod Terms
pub mod Bounds
pub mod Exact
pub mod Factorial
pub mod Sine
pub mod Entry
pub mod Walk
pub mod Asked
