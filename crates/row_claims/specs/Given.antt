-- Given out again: what the crates above take from those below this one.
pub use Rattle.strict_locking.specs.Rows.{HasLocked, IsTaken, name_of}
pub use Rattle.closing_law.specs.Closing.{ArePlain, IsUnfailed, is_checkpoint, LogIs, Closes, AllStand, TranStands}
pub use Rattle.strict_locking.specs.Given.{SlotsStand}
