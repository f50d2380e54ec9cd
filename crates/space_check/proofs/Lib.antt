pub mod Reading
pub mod Steps
pub mod Verdicts
pub mod Scanning
pub mod Adding
