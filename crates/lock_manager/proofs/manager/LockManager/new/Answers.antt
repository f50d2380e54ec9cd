use Rattle.std.proofs.Common.{arith, ◌+◌}
use Rattle.std.proofs.lemmas.Grind.{common_steps}
use Rattle.lock_manager.proofs.Rooms.{start_room}
use Rattle.lock_manager.proofs.Tallies.{start_counted}
use Rattle.lock_manager.proofs.manager.LockManager.new.Goals as goal

pub invariant_of-result : goal.invariant_of-result
invariant_of-result c =
    let own = c.in_ok-new.ensures in
    let others = c.in_ok-new-2.ensures in
    let room = start_room c.args.agents c.in_ok-new.field-0 c.in_ok-new-2.field-0 (grind (arith, own)) (grind (arith, others)) in (
      c.requires,
      (rw (c.in_ok-no_claims.ensures.claims, c.in_ok-with_capacity.ensures.items) room, grind (arith, c.in_ok-no_claims.ensures.places, c.in_ok-no_claims.ensures.claims, c.in_ok-no_claims.field-0.ok, common_steps), grind (arith, c.in_ok-with_capacity.ensures.len, c.in_ok-with_capacity.ensures.capacity)),
      start_counted c.args.entries c.in_ok-no_claims.field-0.items (c.args.agents + 1) c.in_ok-new.field-0 c.in_ok-new-2.field-0 c.in_ok-new-3.field-0 c.in_ok-no_claims.ensures.claims c.in_ok-new-3.ensures.entries c.in_ok-new-3.ensures.none.0 c.in_ok-new-3.ensures.none.1 (grind (arith, own, c.ranges.pages.fits)) (grind (arith, others)),
    )
