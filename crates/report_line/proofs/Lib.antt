pub mod Again
pub mod Ends
pub mod Numbers
pub mod Parts
pub mod Plain
pub mod Said
pub mod Tests
pub mod Whole
