pub mod Logs
pub mod Changes
pub mod Known
pub mod Given
