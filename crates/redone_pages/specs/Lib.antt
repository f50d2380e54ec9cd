pub mod Ranges
pub mod Lasts
pub mod Held
pub mod Redone
