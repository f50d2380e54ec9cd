pub mod Turns
pub mod Out
pub mod Orders
pub mod States
pub mod Scans
pub mod Ranges
pub mod Steps
