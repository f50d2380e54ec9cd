pub mod Binding
pub mod Views
pub mod Tables
pub mod Changed
pub mod Listing
pub mod Making
pub mod Sound
