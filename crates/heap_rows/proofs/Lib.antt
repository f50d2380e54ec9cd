pub mod Maps
pub mod Lefts
pub mod Slots
pub mod Heaps
