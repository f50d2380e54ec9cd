pub mod Reading
pub mod Ends
pub mod Placing
pub mod Told
pub mod Met
pub mod Ranged
