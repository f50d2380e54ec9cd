pub mod Reading
mod Standing
mod Walking
mod Begins
pub mod One
pub mod Whole
