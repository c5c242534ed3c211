pub mod Cosine
pub mod Lows
