-- Given out again: what the crates above take from those below this one.
pub use Rattle.marks_law.specs.Slots.{SlotsStand, SlotsBegin, SlotsReach, SlotsStay}
