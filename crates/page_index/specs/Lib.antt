pub mod Hashes
pub mod Places
pub mod Uses
