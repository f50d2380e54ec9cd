pub mod Fitting
pub mod Keeping
pub mod Marks
pub mod Noting
