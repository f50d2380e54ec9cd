pub mod Reached
pub mod Unhindered
pub mod Had
pub mod Sounds
