pub mod Opens
pub mod Queues
pub mod Plans
pub mod Ends
pub mod Courses
