use Rattle.std.proofs.Common.{◌≡◌, ◌++◌, map, take}
use Rattle.lock_sights.specs.declared.sight.Matter.TheVariants as matter
use Rattle.claim_sights.specs.Seen.{with_grip}
use Rattle.claim_sights.proofs.sights.put_failure_sights.Given as goal

abbrev pub invariant-loop-grip : goal.invariant-loop-grip
invariant-loop-grip l = l.sights.items ≡ l.fn.sights.items ++ map (with_grip l.place l.tran (matter.Failure l.member l.name)) (take l.grip-index l.grips)
