use Rattle.std.proofs.Common.{◌≡◌}
use Rattle.claim_sights.specs.Seats.{seat_within}
use Rattle.claim_sights.proofs.seats.seat_of.Given as goal

abbrev pub invariant-loop-at : goal.invariant-loop-at
invariant-loop-at l = l.seat ≡ seat_within l.marks l.tran l.at
