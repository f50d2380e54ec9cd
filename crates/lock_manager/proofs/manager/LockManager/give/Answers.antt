use Rattle.std.proofs.Common.{◌≡◌, ◌∙◌, sym, ap, subst, refl, false, arith, ◌<◌, length, []}
use Rattle.std.proofs.lemmas.List.{get_or_default}
use Rattle.lock_manager.specs.Managers.{Book, claims_of}
use Rattle.std.specs.Prelude.{is_some, Some, None}
use Rattle.lock_names.specs.Entries.{entry_number}
use Rattle.lock_names.specs.Modes.{class_of}
use Rattle.lock_manager.specs.Claims.{mode_in}
use Rattle.lock_manager.proofs.Rooms.{moved_room, entered_at, given_at, changed_at}
use Rattle.lock_manager.proofs.Tallies.{some_tallied, few_tallied, changed_counted, entered_counted}
use Rattle.lock_manager.proofs.manager.LockManager.give.Goals as goal

pub leave-requires : goal.leave-requires
leave-requires c =
    let there : c.args.owner < length c.self.inside.holders.items = grind (arith, c.requires.owner, c.self.view_is, c.slots-slots.ensures) in
    let P : Book → Type 0 = λ b. c.index_mut.result.now ≡ claims_of b c.args.owner in
    let claims : c.index_mut.result.now ≡ claims_of c.args.self.now c.args.owner = subst P c.self.view_is (c.index_mut.ensures.value ∙ get_or_default c.self.inside.holders.items c.args.owner c.index_mut.result.now [] there) in
    let held : c.held_at-held.result ≡ mode_in c.index_mut.result.now c.args.name.now = c.held_at-held.ensures ∙ ap (λ z. mode_in z c.args.name.now) (sym claims) in
    some_tallied c.self.inside.entries c.self.inside.holders.items c.self.inside.tally c.args.owner c.index_mut.result.now c.args.name.now c.in-Some.mode there c.index_mut.ensures.value (sym held ∙ c.in-Some.is) c.self.invariant.2.tally

pub enter-requires : goal.enter-requires
enter-requires c =
    let few = few_tallied c.self.inside.entries c.self.inside.holders.items c.self.inside.rollbacks.items c.self.inside.agents c.self.inside.own_cells c.self.inside.cells c.self.inside.tally (class_of c.joined-joint.result) (entry_number c.args.name.now c.leave.new.self.entries) c.self.invariant.1.0 c.self.invariant.2 in
    let less = c.leave.ensures.counts (class_of c.joined-joint.result) (entry_number c.args.name.now c.leave.new.self.entries) in
    omega (arith, few, less)

pub invariant_of-self : goal.invariant_of-self
invariant_of-self c =
    let there : c.args.owner < length c.self.inside.holders.items = grind (arith, c.requires.owner, c.self.view_is, c.slots-slots.ensures) in
    let P : Book → Type 0 = λ b. c.index_mut.result.now ≡ claims_of b c.args.owner in
    let claims : c.index_mut.result.now ≡ claims_of c.args.self.now c.args.owner = subst P c.self.view_is (c.index_mut.ensures.value ∙ get_or_default c.self.inside.holders.items c.args.owner c.index_mut.result.now [] there) in
    let held : c.held_at-held.result ≡ mode_in c.index_mut.result.now c.args.name.now = c.held_at-held.ensures ∙ ap (λ z. mode_in z c.args.name.now) (sym claims) in
    let l = c.put.ensures.length in
    let was : mode_in c.index_mut.result.now c.args.name.now ≡ Some c.in-Some.mode = sym held ∙ c.in-Some.is in (
      c.self.invariant.0,
      (moved_room c.self.inside.holders.items c.self.inside.rollbacks.items c.self.inside.agents c.args.owner c.index_mut.result.now c.put.new.self c.self.inside.own_cells c.self.inside.cells c.self.inside.own_cells c.self.inside.cells there c.index_mut.ensures.value refl refl (rw l refl) (rw l refl) c.self.invariant.1.0, c.self.invariant.1.1, c.self.invariant.1.2),
      changed_counted c.self.inside.entries c.self.inside.holders.items c.args.owner c.index_mut.result.now c.put.new.self c.args.name.now c.in-Some.mode c.joined-joint.result c.self.inside.own_cells c.self.inside.cells c.self.inside.tally c.leave.new.self c.enter.new.self there c.index_mut.ensures.value was c.put.ensures.mode c.put.ensures.rest c.leave.ensures.entries c.enter.ensures.entries c.leave.ensures.counts c.enter.ensures.counts c.self.invariant.2,
    )

pub enter-requires-in_default : goal.enter-requires-in_default
enter-requires-in_default c =
    few_tallied c.self.inside.entries c.self.inside.holders.items c.self.inside.rollbacks.items c.self.inside.agents c.self.inside.own_cells c.self.inside.cells c.self.inside.tally (class_of c.joined-joint.result) (entry_number c.args.name.now c.self.inside.tally.entries) c.self.invariant.1.0 c.self.invariant.2

pub invariant_of-self-in_default : goal.invariant_of-self-in_default
invariant_of-self-in_default c =
    let there : c.args.owner < length c.self.inside.holders.items = grind (arith, c.requires.owner, c.self.view_is, c.slots-slots.ensures) in
    let P : Book → Type 0 = λ b. c.index_mut-in_default.result.now ≡ claims_of b c.args.owner in
    let claims : c.index_mut-in_default.result.now ≡ claims_of c.args.self.now c.args.owner = subst P c.self.view_is (c.index_mut-in_default.ensures.value ∙ get_or_default c.self.inside.holders.items c.args.owner c.index_mut-in_default.result.now [] there) in
    let held : c.held_at-held.result ≡ mode_in c.index_mut-in_default.result.now c.args.name.now = c.held_at-held.ensures ∙ ap (λ z. mode_in z c.args.name.now) (sym claims) in
    let e = c.insert.ensures in
    let l = c.insert.ensures.length in
    let was : mode_in c.index_mut-in_default.result.now c.args.name.now ≡ None = sym held ∙ c.in_default.is in (
      c.self.invariant.0,
      (moved_room c.self.inside.holders.items c.self.inside.rollbacks.items c.self.inside.agents c.args.owner c.index_mut-in_default.result.now c.insert.new.self c.self.inside.own_cells c.self.inside.cells c.take_cell-cell.new.own_cells c.take_cell-cell.new.cells there c.index_mut-in_default.ensures.value c.take_cell-cell.ensures.own_size c.take_cell-cell.ensures.others_size (grind (arith, l, c.take_cell-cell.ensures.own)) (grind (arith, l, c.take_cell-cell.ensures.others)) c.self.invariant.1.0, c.self.invariant.1.1, c.self.invariant.1.2),
      entered_counted c.self.inside.entries c.self.inside.holders.items c.args.owner c.index_mut-in_default.result.now c.insert.new.self c.args.name.now c.joined-joint.result c.self.inside.own_cells c.self.inside.cells c.take_cell-cell.new.own_cells c.take_cell-cell.new.cells c.self.inside.tally c.enter-in_default.new.self there c.index_mut-in_default.ensures.value
          was e.mode e.rest c.take_cell-cell.ensures.own_size c.take_cell-cell.ensures.others_size c.enter-in_default.ensures.entries c.enter-in_default.ensures.counts c.self.invariant.2,
    )

pub returns-in_default-clause-given : goal.returns-in_default-clause-given
returns-in_default-clause-given c =
    let there : c.args.owner < length c.self.inside.holders.items = grind (arith, c.requires.owner, c.self.view_is, c.slots-slots.ensures) in
    let P : Book → Type 0 = λ b. c.index_mut-in_default.result.now ≡ claims_of b c.args.owner in
    let claims : c.index_mut-in_default.result.now ≡ claims_of c.args.self.now c.args.owner = subst P c.self.view_is (c.index_mut-in_default.ensures.value ∙ get_or_default c.self.inside.holders.items c.args.owner c.index_mut-in_default.result.now [] there) in
    let held : c.held_at-held.result ≡ mode_in c.index_mut-in_default.result.now c.args.name.now = c.held_at-held.ensures ∙ ap (λ z. mode_in z c.args.name.now) (sym claims) in
    let absent : is_some c.held_at-held.result ≡ false = ap (λ z. is_some z) c.in_default.is in
    entered_at c.self.inside.holders.items c.self.inside.rollbacks.items c.self.inside.agents c.self.inside.entries c.self.inside.own_cells.size c.self.inside.cells.free c.self.inside.room c.args.self.now c.args.owner c.args.name.now c.args.mode
    c.held_at-held.result c.joined-joint.result c.index_mut-in_default.result.now c.index_mut-in_default.result.now c.insert.new.self c.take_cell-cell.new.own_cells.size c.take_cell-cell.new.cells.free
    c.self.view_is there c.index_mut-in_default.ensures.value c.index_mut-in_default.ensures.value held absent c.joined-joint.ensures c.insert.ensures.mode c.insert.ensures.rest c.take_cell-cell.ensures.own_size c.take_cell-cell.ensures.others

pub returns-in_default-clause-exact : goal.returns-in_default-clause-exact
returns-in_default-clause-exact c ne =
    let there : c.args.owner < length c.self.inside.holders.items = grind (arith, c.requires.owner, c.self.view_is, c.slots-slots.ensures) in
    let P : Book → Type 0 = λ b. c.index_mut-in_default.result.now ≡ claims_of b c.args.owner in
    let claims : c.index_mut-in_default.result.now ≡ claims_of c.args.self.now c.args.owner = subst P c.self.view_is (c.index_mut-in_default.ensures.value ∙ get_or_default c.self.inside.holders.items c.args.owner c.index_mut-in_default.result.now [] there) in
    let held : c.held_at-held.result ≡ mode_in c.index_mut-in_default.result.now c.args.name.now = c.held_at-held.ensures ∙ ap (λ z. mode_in z c.args.name.now) (sym claims) in
    let absent : is_some c.held_at-held.result ≡ false = ap (λ z. is_some z) c.in_default.is in
    given_at c.self.inside.holders.items c.self.inside.rollbacks.items c.self.inside.agents c.self.inside.entries c.self.inside.own_cells.size c.self.inside.cells.free c.self.inside.room c.args.self.now c.args.owner c.args.name.now c.args.mode
    c.held_at-held.result c.joined-joint.result c.index_mut-in_default.result.now c.index_mut-in_default.result.now c.insert.new.self c.take_cell-cell.new.own_cells.size c.take_cell-cell.new.cells.free
    c.self.view_is there c.index_mut-in_default.ensures.value c.index_mut-in_default.ensures.value held absent c.joined-joint.ensures (c.insert.ensures.place (grind (arith, ne))) c.take_cell-cell.ensures.own_size (grind (arith, ne, c.take_cell-cell.ensures.others)) ne

pub returns-in-Some-clause-exact : goal.returns-in-Some-clause-exact
returns-in-Some-clause-exact c ne =
    let there : c.args.owner < length c.self.inside.holders.items = grind (arith, c.requires.owner, c.self.view_is, c.slots-slots.ensures) in
    let P : Book → Type 0 = λ b. c.index_mut.result.now ≡ claims_of b c.args.owner in
    let claims : c.index_mut.result.now ≡ claims_of c.args.self.now c.args.owner = subst P c.self.view_is (c.index_mut.ensures.value ∙ get_or_default c.self.inside.holders.items c.args.owner c.index_mut.result.now [] there) in
    let held : c.held_at-held.result ≡ mode_in c.index_mut.result.now c.args.name.now = c.held_at-held.ensures ∙ ap (λ z. mode_in z c.args.name.now) (sym claims) in
    changed_at c.self.inside.holders.items c.self.inside.rollbacks.items c.self.inside.agents c.self.inside.entries c.self.inside.own_cells.size c.self.inside.cells.free c.self.inside.room c.args.self.now c.args.owner c.args.name.now c.args.mode
    c.held_at-held.result c.in-Some.mode c.joined-joint.result c.index_mut.result.now c.index_mut.result.now c.put.new.self
    c.self.view_is there c.index_mut.ensures.value c.index_mut.ensures.value held c.in-Some.is c.joined-joint.ensures c.put.ensures.place
