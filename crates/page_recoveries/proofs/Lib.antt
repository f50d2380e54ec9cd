pub mod Resting
pub mod Failing
pub mod Claims
pub mod Opening
pub mod Restarts
pub mod Phases
pub mod Groups
pub mod Taken
