pub mod Breaks
pub mod Reaching
