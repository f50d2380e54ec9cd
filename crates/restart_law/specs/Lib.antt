pub mod Opens
pub mod Reads
pub mod Few
