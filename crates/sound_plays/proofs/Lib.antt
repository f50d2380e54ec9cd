pub mod Unbroken
pub mod Kept
