pub mod State
pub mod Needs
pub mod Lending
pub mod Logs
pub mod Pages
pub mod Settled
pub mod Calls
pub mod Events
