pub mod Fronts
pub mod Mixes
pub mod Templates
