pub mod Rows
pub mod Forward
pub mod Pages
pub mod Given
