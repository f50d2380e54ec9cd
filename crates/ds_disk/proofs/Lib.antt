pub mod FoundPages
pub mod Appends
pub mod Writes
