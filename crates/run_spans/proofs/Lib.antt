pub mod Failing
pub mod LatestNoted
pub mod Reached
pub mod Tables
