use Rattle.std.proofs.Common.{◌≡◌, ◌++◌, drop}
use Rattle.claim_sights.specs.Grips.{rollback_owners}
use Rattle.claim_sights.proofs.grips.put_rollbacks.Given as goal

abbrev pub invariant-loop-at : goal.invariant-loop-at
invariant-loop-at l = l.owners.items ++ rollback_owners l.marks (drop l.at l.marks.trans.rollbacks) ≡ l.fn.owners.items ++ rollback_owners l.marks l.marks.trans.rollbacks
