pub mod Distance
