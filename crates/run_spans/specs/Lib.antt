pub mod Deeds
pub mod Holders
pub mod LatestEvents
pub mod Places
pub mod Reaches
pub mod Readings
pub mod Runs
