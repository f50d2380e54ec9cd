pub mod Queue
pub mod Maps
pub mod Names
pub mod Own
pub mod Trans
pub mod Written
pub mod Given
