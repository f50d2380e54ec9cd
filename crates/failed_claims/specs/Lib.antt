pub mod Failing
pub mod Given
