pub mod Booleans
pub mod Kind_tests
pub mod Heaps
pub mod Indexes
pub mod Nodes
