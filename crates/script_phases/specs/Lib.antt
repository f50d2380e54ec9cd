pub mod Phases
pub mod Progresses
