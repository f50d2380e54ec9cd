use Rattle.std.proofs.Common.{◌≡◌, ◌++◌, map, take}
use Rattle.claim_sights.specs.Seen.{lock_matter, with_grip}
use Rattle.claim_sights.proofs.sights.put_lock_sights.Given as goal

abbrev pub invariant-loop-grip : goal.invariant-loop-grip
invariant-loop-grip l = l.sights.items ≡ l.fn.sights.items ++ map (with_grip l.place l.tran (lock_matter l.lock)) (take l.grip-index l.grips)
