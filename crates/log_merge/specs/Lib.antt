pub mod Merging
pub mod Pairs
