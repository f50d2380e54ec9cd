pub mod Closed
pub mod Anew
pub mod Others
pub mod Below
pub mod Events
pub mod Runs
