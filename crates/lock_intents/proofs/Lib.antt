pub mod Stands
pub mod Claiming
pub mod Asking
pub mod Closing
pub mod Homes
pub mod Locals
