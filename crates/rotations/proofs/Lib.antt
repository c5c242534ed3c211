pub mod Floor
pub mod Table
pub mod Brought
pub mod CodeSize
pub mod CodeReach
