pub mod Stands
pub mod Intents
pub mod Homes
