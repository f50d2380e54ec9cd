pub mod Index
pub mod Whole
pub mod Partition
pub mod Search
pub mod Whole_search
pub mod Order
pub mod Opening
pub mod Needed
