pub mod Cycles
pub mod Waiting
pub mod Steps
