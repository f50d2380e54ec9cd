use Rattle.std.proofs.Common.{◌≡◌, ◌++◌, map, take, drop}
use Rattle.claim_sights.specs.Dates.{sights_after}
use Rattle.claim_sights.proofs.dates.follow_all.Given as goal

abbrev pub invariant-loop-sight : goal.invariant-loop-sight
invariant-loop-sight l = l.sight-items ≡ sights_after (map (λ m. m.now) l.all) l.place (take l.sight-index l.fn.sights) ++ drop l.sight-index l.fn.sights
