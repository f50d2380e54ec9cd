pub mod Wholes
pub mod Happening
pub mod Desks
pub mod Errands
pub mod Played
