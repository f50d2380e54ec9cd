use Rattle.std.proofs.Common.{◌≡◌, ◌+◌, ◌++◌, ◌<◌, length, map, take, drop, set, subst, arith}
use Rattle.std.proofs.lemmas.List.Edits.{map_over_more}
use Rattle.lock_sights.specs.declared.sight.Sight.{Sight}
use Rattle.claim_sights.specs.Dates.{sight_after}
use Rattle.claim_sights.proofs.dates.follow_all.Goals as goal

pub loop-sight-preserved : goal.loop-sight-preserved
loop-sight-preserved c =
    let i = c.loop-sight.sight-index in
    let f : Sight → Sight = sight_after (map (λ m. m.now) c.args.all.now) c.args.place in
    let within : c.loop-sight.sight-index < length c.args.sights.now = omega arith in
    let P : Sight → Type 0 = λ z. set c.loop-sight.sight-items i (f z) ≡ map f (take (i + 1) c.args.sights.now) ++ drop (i + 1) c.args.sights.now in
    rw c.sight_after.ensures (subst P c.sight-item.is (map_over_more f c.args.sights.now c.loop-sight.sight-items i c.sight-item.result within c.loop-sight.invariant c.sight-item.is))
