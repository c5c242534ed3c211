pub mod Verdicts
pub mod Kept
pub mod Figures
pub mod Settles
pub mod Decides
pub mod Answered
pub mod SettleAnswers
pub mod CodeAnswers
