pub mod Apart
pub mod Fewer
pub mod Undamaged
pub mod Kept
pub mod Asking
pub mod Orders
pub mod Suiting
