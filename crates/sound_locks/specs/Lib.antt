pub mod Claims
pub mod Open
pub mod Plays
