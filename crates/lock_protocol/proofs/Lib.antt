pub mod Modes
pub mod Kept
pub mod Runs
pub mod Needed
pub mod Words
pub mod Own
