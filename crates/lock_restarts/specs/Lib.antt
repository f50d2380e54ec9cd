pub mod Stands
pub mod Intents
pub mod Sent
pub mod Changes
pub mod Events
pub mod Courses
