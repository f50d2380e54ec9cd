pub mod Slots
pub mod Forwards
