pub mod Sound
pub mod Settling
pub mod Going
pub mod Led
pub mod Opened
pub mod Crossing
pub mod Restarting
