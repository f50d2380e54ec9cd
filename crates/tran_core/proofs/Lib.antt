pub mod Looks
pub mod Slots
pub mod Locked
pub mod Told
pub mod Fitting
