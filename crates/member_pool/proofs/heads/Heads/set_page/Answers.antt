use Rattle.std.proofs.Common.{◌≡◌, ℕ, Some, None, sym, ap, ◌<◌, length, subst, slice_set}
use Rattle.page_index.specs.Places.{find_place, IsIndexOf}
use Rattle.member_pool.specs.Frames.{find_page, page_of}
use Rattle.member_pool.specs.Heads.{HeadState, head_of}
use Rattle.member_pool.specs.Listed.{entry_in}
use Rattle.member_pool.proofs.Keeping.{kept_placed, unmarked}
use Rattle.member_pool.proofs.heads.Heads.set_page.Goals as goal

pub enter-requires-clause-index : goal.enter-requires-clause-index
enter-requires-clause-index c = subst (λ fs. IsIndexOf page_of fs c.self.inside.places) (sym c.as_slice.ensures.value) c.self.invariant.index

pub enter-requires-clause-alone : goal.enter-requires-clause-alone
enter-requires-clause-alone c =
    let p = c.self.inside in
    let alone : (g : ℕ) → find_page p.frames.items c.args.id ≡ Some g → g ≡ c.args.frame =
    subst (λ (s : HeadState). (g : ℕ) → find_page s.frames c.args.id ≡ Some g → g ≡ c.args.frame) (sym c.self.view_is) c.requires.alone in
    subst (λ fs. (g : ℕ) → find_place page_of fs c.args.id ≡ Some g → g ≡ c.args.frame) (sym c.as_slice.ensures.value) alone

pub invariant_of-self : goal.invariant_of-self
invariant_of-self c =
    let p = c.self.inside in
    let l : c.args.frame < length p.frames.items = subst (λ (s : HeadState). c.args.frame < length s.frames) (sym c.self.view_is) c.requires.there in
    let none : entry_in p.frames.items c.args.frame ≡ None =
    subst (λ (s : HeadState). entry_in s.frames c.args.frame ≡ None) (sym c.self.view_is) (unmarked (head_of c.args.self.now c.args.frame) c.requires.unchanged) in
    kept_placed _ _ _ _ _ _ c.self.invariant c.args.frame l c.args.id c.holding.result c.make_newest.new.self c.enter.new.self none c.holding.ensures c.make_newest.ensures.order
    (c.make_newest.ensures.whole (length p.frames.items) l c.self.invariant.whole)
    (subst (λ fs. IsIndexOf page_of (slice_set fs c.args.frame c.holding.result) c.enter.new.self) c.as_slice.ensures.value (c.enter.ensures.index c.holding.result (ap page_of c.holding.ensures)))
