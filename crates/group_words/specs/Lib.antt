pub mod Options
pub mod Orders
pub mod Parsed
pub mod Faults
