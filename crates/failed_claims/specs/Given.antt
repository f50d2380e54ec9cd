-- Given out again: what the crates above take from those below this one.
pub use Rattle.strict_locking.specs.Rows.{HasLocked, IsTaken, name_of, number_of}
