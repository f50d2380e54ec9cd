use Rattle.std.proofs.Common.{◌≡◌, ◌++◌, take}
use Rattle.std.specs.List.{flat_map}
use Rattle.claim_sights.specs.Grips.{grip_of}
use Rattle.claim_sights.proofs.grips.put_grips.Given as goal

abbrev pub invariant-loop-owner : goal.invariant-loop-owner
invariant-loop-owner l = l.grips.items ≡ l.fn.grips.items ++ flat_map (grip_of l.marks l.lock l.tran) (take l.owner-index l.owners)
