pub mod Quiet
pub mod Stands
pub mod Cells
pub mod Intents
pub mod Locking
pub mod Events
pub mod Standings
