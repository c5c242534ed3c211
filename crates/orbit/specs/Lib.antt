pub mod Mirror
pub mod Cell
pub mod Given
