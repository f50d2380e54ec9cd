pub mod Starts
pub mod Replies
