pub mod Soundness
pub mod Left_out
pub mod Runs
pub mod Closing
