pub mod Opens
pub mod Few
pub mod Allowed
