pub mod Reading
pub mod Pages
pub mod Set_steps
pub mod Versions
pub mod Marks
pub mod Ranging
