pub mod Writing
pub mod Noting
pub mod Spots
pub mod Rooms
