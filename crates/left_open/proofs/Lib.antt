pub mod Open
pub mod Staying
