pub mod Failing
pub mod Restarting
