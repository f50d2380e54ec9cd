pub mod Pages
pub mod Image
pub mod Faults
pub mod Laws
