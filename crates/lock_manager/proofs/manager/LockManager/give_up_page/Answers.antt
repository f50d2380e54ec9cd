use Rattle.std.proofs.Common.{◌≡◌, ◌∙◌, ap, sym, true, arith, ◌<◌, length}
use Rattle.std.specs.Prelude.{is_some, Some}
use Rattle.lock_manager.specs.Claims.{mode_in}
use Rattle.lock_manager.proofs.Rooms.{moved_room, page_given_up}
use Rattle.lock_manager.proofs.Tallies.{some_tallied, removed_counted, read_twice}
use Rattle.lock_manager.proofs.manager.LockManager.give_up_page.Goals as goal

pub leave-requires : goal.leave-requires
leave-requires c =
    let there : 0 < length c.self.inside.holders.items = grind (arith, c.self.view_is, c.slots-slots.ensures) in
    some_tallied c.self.inside.entries c.self.inside.holders.items c.self.inside.tally 0 c.index.result.now c.args.name.now c.in-Some.mode there c.index.ensures (sym c.find.ensures ∙ c.in-Some.is) c.self.invariant.2.tally

pub invariant_of-self-2 : goal.invariant_of-self-2
invariant_of-self-2 c =
    let there : 0 < length c.self.inside.holders.items = grind (arith, c.self.view_is, c.slots-slots.ensures) in
    let same = read_twice c.self.inside.holders.items 0 c.index_mut.result.now c.index.result.now there c.index_mut.ensures.value c.index.ensures in
    let was : mode_in c.index_mut.result.now c.args.name.now ≡ Some c.in-Some.mode = ap (λ z. mode_in z c.args.name.now) same ∙ sym c.find.ensures ∙ c.in-Some.is in
    let stands : is_some (mode_in c.index_mut.result.now c.args.name.now) ≡ true = ap (λ z. is_some z) was in
    let long = page_given_up c.index_mut.result.now c.remove.new.self c.args.name.now c.remove.ensures.chain stands in (
      c.self.invariant.0,
      (moved_room c.self.inside.holders.items c.self.inside.rollbacks.items c.self.inside.agents 0 c.index_mut.result.now c.remove.new.self c.self.inside.own_cells c.self.inside.cells c.give_back.new.own_cells c.give_back.new.cells there c.index_mut.ensures.value c.give_back.ensures.own_size c.give_back.ensures.others_size (grind (arith, long, c.give_back.ensures.own)) (grind (arith, long, c.give_back.ensures.others)) c.self.invariant.1.0, c.self.invariant.1.1, c.self.invariant.1.2),
      removed_counted c.self.inside.entries c.self.inside.holders.items 0 c.index_mut.result.now c.remove.new.self c.args.name.now c.in-Some.mode c.self.inside.own_cells c.self.inside.cells c.give_back.new.own_cells c.give_back.new.cells c.self.inside.tally c.leave.new.self there c.index_mut.ensures.value was c.remove.ensures.chain c.give_back.ensures.own_size c.give_back.ensures.others_size c.leave.ensures.entries c.leave.ensures.counts c.self.invariant.2,
    )
