pub mod Rows_left
pub mod Maps
pub mod Left
