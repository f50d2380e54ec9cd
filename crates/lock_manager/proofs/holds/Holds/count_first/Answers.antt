use Rattle.std.proofs.Common.{◌≡◌, ◌+◌, arith, if◌then◌else◌}
use Rattle.lock_manager.proofs.Tallies.{counted_next}
use Rattle.lock_manager.proofs.holds.Holds.count_first.Goals.{then-is_counted, else-is_counted}
use Rattle.lock_manager.proofs.holds.Holds.count_first.Goals as goal

pub loop-place-preserved : goal.loop-place-preserved
loop-place-preserved c =
    let next : c.if-is_counted.count ≡ (if c.is_counted.result then c.loop-place.count + 1 else c.loop-place.count) = elim c.if-is_counted.branch [
      | then-is_counted w ↦ grind (arith, w.count-is, w.if-is_counted.true)
      | else-is_counted w ↦ grind (arith, w.count-is, w.if-is_counted.false)
    ] in
    counted_next c.args.entries c.args.entry c.args.needed c.args.self.now c.loop-place.place c.in-Some.claim c.is_counted.result c.loop-place.count c.if-is_counted.count c.in-Some.ensures.claim c.is_counted.ensures c.loop-place.invariant.0 c.loop-place.invariant.1 next
