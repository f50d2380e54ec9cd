pub mod Names
pub mod State
pub mod Claims
pub mod Frames
pub mod Records
pub mod Rollbacks
pub mod Local
pub mod Given
