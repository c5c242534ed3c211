pub mod Fits
pub mod FirstCode
pub mod Refuses
pub mod Outcomes
