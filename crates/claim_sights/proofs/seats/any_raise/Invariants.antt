use Rattle.std.proofs.Common.{◌≡◌, take}
use Rattle.std.specs.List.{list_any}
use Rattle.claim_sights.specs.Seats.{is_raise}
use Rattle.claim_sights.proofs.seats.any_raise.Given as goal

abbrev pub invariant-loop-op : goal.invariant-loop-op
invariant-loop-op l = l.found ≡ list_any (is_raise l.flag) (take l.op-index l.ops)
