pub mod Stands
pub mod Events
pub mod Members
pub mod Newest
pub mod Given
