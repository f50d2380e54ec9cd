pub mod Entries
pub mod Search
pub mod Changes
pub mod Nodes
