pub mod Holding
pub mod Meets
pub mod Places
pub mod Exactly
pub mod Rechecking
