pub mod Grid
pub mod Codes
pub mod Make
pub mod Refuses
pub mod Limits
pub mod Flyby
pub mod Messages
