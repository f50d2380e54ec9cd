pub mod Unmet
pub mod Reading
pub mod Unkept
pub mod Exact
