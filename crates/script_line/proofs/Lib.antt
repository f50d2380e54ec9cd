pub mod FirstWords
pub mod Ranges
pub mod LineOfWords
pub mod Numbers
pub mod Texts
pub mod Canonical
pub mod Said
