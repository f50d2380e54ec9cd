pub mod Owners
pub mod Groups
pub mod Runs
pub mod Resting
pub mod Casting
pub mod Given
