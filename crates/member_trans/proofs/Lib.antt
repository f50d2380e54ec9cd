pub mod Deciding
pub mod Places
