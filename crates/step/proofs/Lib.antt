pub mod Answered
pub mod CodeUnits
pub mod EitherZero
pub mod HandedOver
pub mod InRadians
pub mod Judged
pub mod StepLaws
