pub mod Quiet
pub mod Events
pub mod Standings
pub mod Given
