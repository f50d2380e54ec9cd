pub mod Kinds
pub mod Heaps
pub mod Indexes
pub mod Nodes
