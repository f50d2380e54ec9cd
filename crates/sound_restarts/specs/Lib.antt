pub mod Damage
pub mod Redo
pub mod Undo
pub mod Renewal
pub mod Cuts
