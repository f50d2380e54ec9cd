pub mod Tests
pub mod Laws
pub mod Executing
