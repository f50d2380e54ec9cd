pub mod Logs
pub mod Given
