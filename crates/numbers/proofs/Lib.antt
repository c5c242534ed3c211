pub mod Rows
pub mod Starred
pub mod StepNumbers
pub mod FlybyNumbers
