pub mod Calls
pub mod Inputs
pub mod Orders
pub mod Statuses
