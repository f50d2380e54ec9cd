pub mod Rooms
pub mod Left
pub mod Runs
pub mod Refused
