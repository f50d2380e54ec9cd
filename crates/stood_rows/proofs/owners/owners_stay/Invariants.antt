use Rattle.stood_rows.specs.Owners.{OwnersStay}
use Rattle.stood_rows.proofs.owners.owners_stay.Given as goal

abbrev pub invariant-loop-slot : goal.invariant-loop-slot
invariant-loop-slot l = OwnersStay l.slot l.before l.behind
