pub mod Untouched
pub mod Heaps
pub mod Indexes
