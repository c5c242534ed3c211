pub mod OfCosine
pub mod CosineLaws
