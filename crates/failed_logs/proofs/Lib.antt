pub mod Tied
pub mod Failing
pub mod Restarting
pub mod Claimed
pub mod Taken
