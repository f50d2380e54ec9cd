pub mod Causes
pub mod Comings
pub mod Commits
pub mod Restarts
pub mod Crossing
