pub mod Both
pub mod Courses
pub mod Opened
