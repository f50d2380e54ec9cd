-- Given out again: what the crates above take from those below this one.
pub use Rattle.sound_courses.specs.Standing.{NoneIsOld, IsLeftSound}
pub use Rattle.sound_courses.specs.Ending.{HasEnded}
pub use Rattle.sound_courses.specs.Bringing.{PlanFits}
