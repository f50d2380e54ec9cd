pub mod Owners
pub mod Standing
pub mod Found
pub mod Laws
