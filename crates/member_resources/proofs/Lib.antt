pub mod Settling
pub mod Allowed
