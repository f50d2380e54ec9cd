pub mod Courses
pub mod Fits
pub mod Ends
