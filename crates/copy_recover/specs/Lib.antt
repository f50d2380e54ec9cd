pub mod Recovered
pub mod Recovering
pub mod Reading
pub mod Writing
