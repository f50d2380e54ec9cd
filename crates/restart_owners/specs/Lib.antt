pub mod Owners
pub mod Listing
pub mod Events
pub mod Ends
pub mod Stages
pub mod Undrawn
pub mod Given
