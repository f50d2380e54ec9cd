pub mod Chains
pub mod Histories
pub mod Desks
pub mod Laws
