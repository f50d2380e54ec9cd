pub mod Stays
pub mod Records
pub mod Effects
pub mod Locals
pub mod Events
pub mod Allowed
pub mod Resting
