pub mod Step
pub mod Entry
pub mod Known
