pub mod Checks
pub mod Texts
pub mod Numbers
pub mod Restarting
pub mod Copying
pub mod Recovering
