pub mod Kept
pub mod Slots
pub mod Founds
pub mod Owned
pub mod Walking
pub mod Tellings
pub mod Scanning
