pub mod Names
pub mod Faults
pub mod Looks
pub mod Plans
pub mod Rows
pub mod Pages
