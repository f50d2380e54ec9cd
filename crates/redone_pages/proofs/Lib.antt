pub mod Kept
pub mod Raised
pub mod Taken
