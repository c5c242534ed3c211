pub mod Round
pub mod Choose
pub mod First
pub mod Sign
pub mod Room
