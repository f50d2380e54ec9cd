pub mod Entries
pub mod Chains
pub mod Depth
pub mod Records
pub mod Buckets
pub mod Locks
