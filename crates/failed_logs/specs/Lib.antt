pub mod Failures
pub mod Logs
pub mod Given
