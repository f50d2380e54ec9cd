use Rattle.std.proofs.Common.{◌≡◌, arith, ◌<◌, ◌+◌, length, get_or, []}
use Rattle.lock_manager.proofs.Rooms.{ended_room}
use Rattle.lock_manager.proofs.Tallies.{ended_counted}
use Rattle.lock_manager.proofs.manager.LockManager.end.Goals as goal

pub invariant_of-self : goal.invariant_of-self
invariant_of-self c =
    let there : c.args.at < length c.self.inside.rollbacks.items = grind (arith, c.requires.there, c.self.view_is) in
    let place : c.slots.result + c.args.at ≡ c.self.inside.agents + 1 + c.args.at = grind (arith, c.self.view_is, c.slots.ensures.slots) in
    let empty : get_or c.self.inside.holders.items (c.slots.result + c.args.at) [] ≡ [] = grind (arith, c.requires.done, c.self.view_is, c.slots.ensures.slots) in (
      c.self.invariant.0,
      (
        rw (c.remove.ensures.items, c.remove-2.ensures.items) (ended_room c.self.inside.holders.items c.self.inside.rollbacks.items c.self.inside.agents c.args.at (c.slots.result + c.args.at) c.self.inside.own_cells c.self.inside.cells there place empty c.self.invariant.1.0),
        grind (arith, c.remove.ensures.len, c.remove.ensures.capacity, c.self.invariant.1.1),
        grind (arith, c.remove-2.ensures.len, c.remove-2.ensures.capacity, c.self.invariant.1.2),
      ),
      rw c.remove.ensures.items (ended_counted c.self.inside.entries c.self.inside.holders.items (c.slots.result + c.args.at) c.self.inside.own_cells c.self.inside.cells c.self.inside.tally (grind (arith, c.requires.there, c.self.view_is, place, c.self.invariant.1.0.owners)) empty c.self.invariant.2),
    )
