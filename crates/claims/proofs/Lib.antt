pub mod AnswerBytes
pub mod BatchCount
pub mod AnswersBuffer
pub mod CodeNanPatterns
pub mod OneRecord
pub mod CodeBatch
