use Rattle.std.proofs.Common.{◌≡◌, ◌++◌}
use Rattle.claim_sights.specs.Grips.{slot_owners}
use Rattle.claim_sights.proofs.grips.put_slots.Given as goal

abbrev pub invariant-loop-at : goal.invariant-loop-at
invariant-loop-at l = l.owners.items ≡ l.fn.owners.items ++ slot_owners l.at
