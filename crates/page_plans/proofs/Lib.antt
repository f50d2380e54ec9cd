pub mod Nodes
pub mod Slots
pub mod Patch_sizes
pub mod Allowing
pub mod Pages
