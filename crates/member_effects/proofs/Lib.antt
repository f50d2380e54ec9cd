pub mod Same
mod Allowed
