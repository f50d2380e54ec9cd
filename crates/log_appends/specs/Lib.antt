pub mod Appends
pub mod Rests
