pub mod Order
pub mod Pages
pub mod Nodes
pub mod Depth
