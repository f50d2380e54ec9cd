pub mod Begin
pub mod Held
pub mod Keeping
pub mod Lending
pub mod Readers
