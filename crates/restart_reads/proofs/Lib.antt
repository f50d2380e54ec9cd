pub mod Logs
pub mod Bad_fields
pub mod Going
