pub mod Recorded
pub mod Claimed
pub mod Marked
pub mod Crossing
