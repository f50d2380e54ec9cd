pub mod Order
pub mod Mixing
pub mod Orders
