pub mod Listed
pub mod Known
pub mod Sound
pub mod Open
pub mod Led
pub mod Played
