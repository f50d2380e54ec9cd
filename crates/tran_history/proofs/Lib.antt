pub mod Undone
pub mod Aborting
pub mod Placing
pub mod Replaying
