pub mod Fated
pub mod Kept
