pub mod Ends
pub mod Passes
pub mod Searched
pub mod Steps
