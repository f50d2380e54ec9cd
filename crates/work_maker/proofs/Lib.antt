pub mod Series
pub mod Texts
pub mod Trans
pub mod Scripts
