pub mod Answered
pub mod Wider
