pub mod Broken
pub mod Looking
pub mod Ends
