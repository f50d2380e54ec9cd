pub mod Members
pub mod Breaking
mod Ending
