pub mod Held
pub mod Lending
pub mod Forward
pub mod Outcomes
pub mod Settled
pub mod Calls
pub mod Events
pub mod Given
