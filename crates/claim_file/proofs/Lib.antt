pub mod Output
pub mod CodeOutput
pub mod CodeRead
