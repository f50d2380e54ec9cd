pub mod Calls
pub mod Own
pub mod Others
pub mod Groups
pub mod Known
