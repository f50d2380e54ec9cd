pub mod Beginning
pub mod Follows
pub mod Seen
