pub mod Keeping
pub mod Taking
pub mod Leaving
pub mod Moving
pub mod Events
pub mod Changing
