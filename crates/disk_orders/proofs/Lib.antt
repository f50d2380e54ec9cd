pub mod Told
pub mod Opening
pub mod Written
pub mod Pieces
pub mod Recovered
pub mod Greatest
