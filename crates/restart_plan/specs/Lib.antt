pub mod Values
pub mod Greatest
pub mod Tails
pub mod Ends
pub mod Opened
pub mod Plans
pub mod Renewal
pub mod Given
