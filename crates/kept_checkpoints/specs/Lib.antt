pub mod Offsets
pub mod Needs
pub mod Scan
pub mod Recheck
