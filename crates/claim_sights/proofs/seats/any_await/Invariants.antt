use Rattle.std.proofs.Common.{◌≡◌, take}
use Rattle.std.specs.List.{list_any}
use Rattle.claim_sights.specs.Seats.{is_await}
use Rattle.claim_sights.proofs.seats.any_await.Given as goal

abbrev pub invariant-loop-op : goal.invariant-loop-op
invariant-loop-op l = l.found ≡ list_any (is_await l.flag) (take l.op-index l.ops)
