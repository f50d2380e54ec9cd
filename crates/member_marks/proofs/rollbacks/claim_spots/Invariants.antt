use Rattle.std.proofs.Common.{◌≡◌, ◌-◌, ◌*◌, ◌≤◌, drop, length}
use Rattle.member_marks.specs.Rollbacks.{claimed}
use Rattle.member_marks.proofs.rollbacks.claim_spots.Given as goal

abbrev pub invariant-loop-spot : goal.invariant-loop-spot
invariant-loop-spot l =
    (claimed l.locks (drop l.spot-index l.spots) ≡ claimed l.fn.locks l.spots)
    × (2 * (length l.spots - l.spot-index) ≤ l.locks.spare)
    × (l.locks ≡ record l.fn.locks { holders = l.locks.holders; spare = l.locks.spare })
