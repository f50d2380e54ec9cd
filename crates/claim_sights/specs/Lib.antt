pub mod Dates
pub mod Grips
pub mod Quests
pub mod Seats
pub mod Seen
