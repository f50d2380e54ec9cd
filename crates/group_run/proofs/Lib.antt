pub mod Called
pub mod Recovering
pub mod Copying
pub mod Pieces
pub mod Restarting
