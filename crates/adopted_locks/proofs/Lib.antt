pub mod Claims
pub mod Locks
