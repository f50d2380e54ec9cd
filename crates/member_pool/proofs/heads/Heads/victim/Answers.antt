use Rattle.std.proofs.Common.{◌≡◌, ℕ, Bool, true, true≢false, None, Option, Some, refl, ap, ◌∙◌, sym, ◌<◌, length, subst, arith}
use Rattle.std.specs.Prelude.{find, IfSome, IsNone}
use Rattle.std.proofs.lemmas.Option.{IfSome_then}
use Rattle.member_pool.specs.Frames.{is_unpinned, frame_at}
use Rattle.page_index.specs.Uses.{may_take, IsOrderOf}
use Rattle.member_pool.specs.Heads.{HeadState, victim_in}
use Rattle.member_pool.proofs.Keeping.{taken_same}
use Rattle.member_pool.proofs.Fronts.{found_passes, none_passes}
use Rattle.member_pool.proofs.heads.Heads.victim.Goals as goal

nothing : (o : Option ℕ) → IsNone o → o ≡ None
nothing None n = refl
nothing (Some x) n = absurd (true≢false n)

pub as_frame-requires : goal.as_frame-requires
as_frame-requires c =
    let p = c.self.inside in
    let small = c.self.invariant.small in
    IfSome_then c.first_to_take.result (c.first_to_take.ensures.there (length p.frames.items) c.self.invariant.whole) (λ f l. omega (arith, l, small))

pub returns-clause-oldest : goal.returns-clause-oldest
returns-clause-oldest c =
    let p = c.self.inside in
    c.as_frame.ensures
    ∙ c.first_to_take.ensures.place
    ∙ ap (λ fs. find (may_take is_unpinned fs) p.order) c.as_slice.ensures.value
    ∙ taken_same p.frames.items p.order c.self.invariant.whole.within
    ∙ ap victim_in c.self.view_is

pub returns-clause-there : goal.returns-clause-there
returns-clause-there c =
    let p = c.self.inside in
    subst (λ r. IfSome r (λ f. f < length c.args.self.now.frames)) (sym c.as_frame.ensures)
    (subst (λ (s : HeadState). IfSome c.first_to_take.result (λ f. f < length s.frames)) c.self.view_is
    (c.first_to_take.ensures.there (length p.frames.items) c.self.invariant.whole))

pub returns-clause-unpinned : goal.returns-clause-unpinned
returns-clause-unpinned c =
    let p = c.self.inside in
    let q : ℕ → Bool = λ f. is_unpinned (frame_at c.args.self.now.frames f) in
    subst (λ r. IfSome r (λ f. q f ≡ true)) (sym (returns-clause-oldest c)) (found_passes q c.args.self.now.order)

pub returns-clause-none : goal.returns-clause-none
returns-clause-none c = λ none f l.
    let s = c.args.self.now in
    let q : ℕ → Bool = λ g. is_unpinned (frame_at s.frames g) in
    none_passes q f s.order (nothing (find q s.order) (subst IsNone (returns-clause-oldest c) none))
    ((subst (λ (t : HeadState). IsOrderOf (length t.frames) t.order) c.self.view_is c.self.invariant.whole).covers f l)
