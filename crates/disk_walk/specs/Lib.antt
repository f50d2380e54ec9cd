pub mod Reading
pub mod Walks
pub mod One
pub mod Whole
