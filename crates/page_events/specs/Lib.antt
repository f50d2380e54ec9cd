pub mod Beside
pub mod Quiet
pub mod Events
pub mod Given
