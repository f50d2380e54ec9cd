use Rattle.std.proofs.Common.{arith, ap, ◌<◌, length}
use Rattle.lock_manager.proofs.Rooms.{moved_room, others_used}
use Rattle.lock_manager.proofs.Tallies.{first_tallied, popped_counted}
use Rattle.lock_manager.proofs.manager.LockManager.give_up_first.Goals as goal

pub give_back-requires-clause-others : goal.give_back-requires-clause-others
give_back-requires-clause-others c ne =
    let there : c.args.owner < length c.self.inside.holders.items = grind (arith, c.requires, c.self.view_is) in
    let long = ap (λ z. length z) c.in_ok-claim.ensures in
    others_used c.self.inside.holders.items c.self.inside.rollbacks.items c.self.inside.agents c.args.owner c.index_mut.result.now c.self.inside.own_cells c.self.inside.cells there c.index_mut.ensures.value ne (omega (arith, long)) c.self.invariant.1.0

pub leave-requires : goal.leave-requires
leave-requires c =
    let there : c.args.owner < length c.self.inside.holders.items = grind (arith, c.requires, c.self.view_is) in
    first_tallied c.self.inside.entries c.self.inside.holders.items c.self.inside.tally c.args.owner c.index_mut.result.now c.pop.new.self c.in_ok-claim.claim there c.index_mut.ensures.value c.in_ok-claim.ensures c.self.invariant.2.tally

pub invariant_of-self-2 : goal.invariant_of-self-2
invariant_of-self-2 c =
    let there : c.args.owner < length c.self.inside.holders.items = grind (arith, c.requires, c.self.view_is) in
    let long = ap (λ z. length z) c.in_ok-claim.ensures in (
      c.self.invariant.0,
      (moved_room c.self.inside.holders.items c.self.inside.rollbacks.items c.self.inside.agents c.args.owner c.index_mut.result.now c.pop.new.self c.self.inside.own_cells c.self.inside.cells c.give_back.new.own_cells c.give_back.new.cells there c.index_mut.ensures.value c.give_back.ensures.own_size c.give_back.ensures.others_size (grind (arith, long, c.give_back.ensures.own)) (grind (arith, long, c.give_back.ensures.others)) c.self.invariant.1.0, c.self.invariant.1.1, c.self.invariant.1.2),
      popped_counted c.self.inside.entries c.self.inside.holders.items c.args.owner c.index_mut.result.now c.pop.new.self c.in_ok-claim.claim c.self.inside.own_cells c.self.inside.cells c.give_back.new.own_cells c.give_back.new.cells c.self.inside.tally c.leave.new.self there c.index_mut.ensures.value c.in_ok-claim.ensures c.give_back.ensures.own_size c.give_back.ensures.others_size c.leave.ensures.entries c.leave.ensures.counts c.self.invariant.2,
    )
