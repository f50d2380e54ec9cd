pub mod Spelling
pub mod Stopping
pub mod Rests
