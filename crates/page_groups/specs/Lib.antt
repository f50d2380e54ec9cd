pub mod Groups
pub mod Falls
