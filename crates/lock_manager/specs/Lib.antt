pub mod Claims
pub mod Chains
pub mod Depth
pub mod Buckets
pub mod Holds
pub mod Tallies
pub mod Holders
pub mod Managers
