pub mod Images
pub mod Parts
pub mod Given
