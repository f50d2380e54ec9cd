-- Given out again: what the crates above take from those below this one.
pub use Rattle.restart_marks.specs.Moves.{Reaches}
