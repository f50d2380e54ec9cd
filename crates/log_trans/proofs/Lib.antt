pub mod Fitting
pub mod Lasts
