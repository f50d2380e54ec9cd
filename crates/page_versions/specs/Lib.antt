pub mod Fronts
pub mod Own
