pub mod Held
pub mod Prepared
pub mod Lending
pub mod Settled
pub mod Events
