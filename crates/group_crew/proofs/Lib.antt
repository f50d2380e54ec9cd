pub mod Parts
pub mod Restarts
pub mod Stops
pub mod Begun
pub mod Anew
pub mod Made
pub mod Crossing
pub mod Known
