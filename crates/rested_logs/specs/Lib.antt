pub mod Given
pub mod Rests
pub mod Others
pub mod Counts
pub mod Runs
