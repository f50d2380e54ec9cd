pub mod Fitting
pub mod Fronts
pub mod Listed
pub mod Touching
pub mod Search
