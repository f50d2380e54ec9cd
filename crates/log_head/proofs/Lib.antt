pub mod Fronts
pub mod Whole
pub mod Logs
pub mod Kept
