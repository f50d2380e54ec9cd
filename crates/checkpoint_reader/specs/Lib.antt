pub mod Ends
pub mod Keeping
pub mod Lending
pub mod Readers
pub mod Given
