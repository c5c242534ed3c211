pub mod Form
pub mod Record
pub mod AnswerByte
pub mod Batch
