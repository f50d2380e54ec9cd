pub mod Wants
pub mod States
pub mod Stages
pub mod Courses
pub mod Looks
pub mod Pages
pub mod Runs
