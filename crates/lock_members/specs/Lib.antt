pub mod Known
pub mod Members
pub mod Given
