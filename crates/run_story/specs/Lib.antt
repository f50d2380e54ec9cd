pub mod Facts
pub mod Names
pub mod Phrases
pub mod Stories
