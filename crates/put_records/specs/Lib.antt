pub mod Puts
pub mod Resting
