pub mod Resting
pub mod Failing
pub mod Restarts
pub mod Phases
pub mod Groups
pub mod Taken
pub mod Given
