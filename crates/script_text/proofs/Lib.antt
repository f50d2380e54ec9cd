pub mod Lists
pub mod Counts
pub mod SoFar
pub mod Pieces
pub mod Inserted
pub mod Blank
pub mod Indexed
pub mod Grows
pub mod Loops
pub mod Members
pub mod Kept
pub mod Sound
pub mod Spelled
pub mod Cutting
pub mod Runs
pub mod Round
mod Short
