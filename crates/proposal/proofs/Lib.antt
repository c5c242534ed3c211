pub mod Certificate
pub mod Smallest
pub mod Proposed
