pub mod Modes
pub mod Entries
pub mod Names
pub mod Given
