use Rattle.std.proofs.Common.{◌≡◌, replicate}
use Rattle.cache_structure.specs.Slots.{free_slot}
use Rattle.cache_structure.proofs.slot.free_slots.Given as goal

abbrev pub invariant-loop : goal.invariant-loop
invariant-loop l = l.slots.items ≡ replicate l.counter free_slot
