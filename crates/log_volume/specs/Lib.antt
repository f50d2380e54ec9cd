pub mod Faults
pub mod Disks
