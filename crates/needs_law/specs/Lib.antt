pub mod Lawful
pub mod Executing
