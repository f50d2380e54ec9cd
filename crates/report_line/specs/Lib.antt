pub mod Bodies
pub mod Cuts
pub mod Lines
pub mod Reading
