pub mod Undo
