use Rattle.std.proofs.Common.{arith, ◌∙◌, ◌<◌, length}
use Rattle.lock_manager.proofs.Rooms.{postponed_room_at}
use Rattle.lock_manager.proofs.Tallies.{postponed_counted}
use Rattle.lock_manager.proofs.manager.LockManager.postpone.Goals as goal

pub invariant_of-self : goal.invariant_of-self
invariant_of-self c =
    let there : c.args.owner < length c.self.inside.holders.items = grind (arith, c.requires.owner, c.self.view_is, c.slots-slots.ensures) in (
      c.self.invariant.0,
      (
        postponed_room_at c.self.inside.holders.items c.self.inside.rollbacks.items c.self.inside.agents c.args.owner c.index_mut.result.now c.replace-claims.new.dest c.replace-claims.result c.push_reserved.new.self.items (record { id = c.args.id; by = c.args.by }) c.push_reserved-2.new.self.items c.self.inside.own_cells c.self.inside.cells c.requires.owner.0 there c.index_mut.ensures.value c.push_reserved.ensures.items (c.replace-claims.ensures.after ∙ c.new.ensures) c.replace-claims.ensures.value c.push_reserved-2.ensures.items c.self.invariant.1.0,
        grind (arith, c.push_reserved.ensures.len, c.push_reserved.ensures.capacity, c.self.invariant.1.1, c.requires.room, c.self.view_is),
        grind (arith, c.push_reserved-2.ensures.len, c.push_reserved-2.ensures.capacity, c.self.invariant.1.2, c.requires.room, c.self.view_is),
      ),
      postponed_counted c.self.inside.entries c.self.inside.holders.items c.args.owner c.index_mut.result.now c.replace-claims.new.dest c.replace-claims.result c.push_reserved.new.self.items c.self.inside.own_cells c.self.inside.cells c.self.inside.tally there c.index_mut.ensures.value c.push_reserved.ensures.items (c.replace-claims.ensures.after ∙ c.new.ensures) c.replace-claims.ensures.value c.self.invariant.2,
    )
