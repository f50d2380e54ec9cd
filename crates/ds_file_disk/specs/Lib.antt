pub mod Untold
pub mod Conditions
pub mod Names
