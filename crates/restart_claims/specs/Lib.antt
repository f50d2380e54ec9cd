pub mod Claims
pub mod Stops
pub mod Whole
