pub mod Causes
pub mod Moments
pub mod Laws
pub mod Answers
