pub mod Stands
pub mod Calls
pub mod Anew
pub mod Steps
pub mod Taken
pub mod Whole
