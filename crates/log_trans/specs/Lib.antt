pub mod Courses
pub mod Damage
pub mod Numbers
