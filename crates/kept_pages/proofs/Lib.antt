pub mod Judged
pub mod Deciding
pub mod Told
pub mod Telling
pub mod Members
