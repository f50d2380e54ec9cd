pub mod Named
pub mod Changing
pub mod Staying
