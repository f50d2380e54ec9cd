pub mod TextLines
pub mod SoFar
pub mod Drafts
pub mod Reading
pub mod Indexes
