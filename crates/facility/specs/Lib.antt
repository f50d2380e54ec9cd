pub mod States
pub mod LockCommands
pub mod CacheCommands
pub mod ListCommands
pub mod Counting
pub mod Commands
