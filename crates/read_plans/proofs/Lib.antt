pub mod Settling
pub mod Left_out
pub mod Told
pub mod Members
pub mod Fitting
pub mod Ends
pub mod Beginning
pub mod Taken
