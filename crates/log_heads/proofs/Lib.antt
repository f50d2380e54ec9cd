pub mod Fills
pub mod Least
pub mod Order
pub mod Reading
pub mod Scans
pub mod Takes
