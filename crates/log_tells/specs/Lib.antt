pub mod Told
pub mod Keeps
pub mod Leads
pub mod Clear
