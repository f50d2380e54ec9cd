pub mod Functions
pub mod Machine
pub mod Moves
pub mod Sound
pub mod Needed
pub mod Words
pub mod Example
pub mod Own
