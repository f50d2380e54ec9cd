-- Given out again: what the crates above take from those below this one.
pub use Rattle.lock_intents.specs.Stands.{IsUp, Goes, Knows, Leads}
pub use Rattle.marks_law.specs.Free.{FreeHoldNothing, FreeAdopt, FreeReach, FreeStay}
pub use Rattle.marks_law.specs.Slots.{SlotsStand, AreSlots, SlotsReach, SlotsStay, has_own}
