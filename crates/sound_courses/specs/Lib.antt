pub mod Standing
pub mod Undoing
pub mod Ending
pub mod Bringing
