pub mod Changes
pub mod Layout
pub mod Next
pub mod Slots
pub mod Written
