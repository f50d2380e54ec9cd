use Rattle.std.proofs.Common.{◌≡◌, drop}
use Rattle.member_marks.specs.Claims.{mode_held}
use Rattle.lock_sights.specs.Locks.{wanted}
use Rattle.claim_sights.proofs.seats.wanted.Given as goal

abbrev pub invariant-loop-op : goal.invariant-loop-op
invariant-loop-op l = wanted (mode_held l.marks l.owner) (drop l.op-index l.ops) ≡ wanted (mode_held l.marks l.owner) l.ops
