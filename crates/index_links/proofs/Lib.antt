pub mod Chains
pub mod Kinds_in
pub mod Found
pub mod Nodes_in
pub mod Rights
pub mod Untouched
pub mod Linked
pub mod Told
