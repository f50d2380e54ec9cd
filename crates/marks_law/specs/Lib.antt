pub mod Slots
pub mod Claims
pub mod Free
pub mod Transactions
pub mod Given
