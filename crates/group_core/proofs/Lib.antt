pub mod Going
mod Runs
mod Listed
pub mod Taking
mod Owning
mod Taken
pub mod Crossing
mod Known
