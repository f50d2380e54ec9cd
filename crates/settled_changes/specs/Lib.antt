pub mod Left
pub mod Spots
