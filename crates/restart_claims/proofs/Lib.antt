pub mod Freeing
pub mod Staying
pub mod Telling
pub mod Stopping
pub mod Whole
