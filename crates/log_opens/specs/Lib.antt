pub mod Opens
pub mod Puts
