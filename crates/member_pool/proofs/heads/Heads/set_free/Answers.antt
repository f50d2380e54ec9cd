use Rattle.std.proofs.Common.{◌≡◌, None, sym, ◌<◌, length, subst}
use Rattle.member_pool.specs.Heads.{HeadState, head_of}
use Rattle.member_pool.specs.Listed.{entry_in}
use Rattle.member_pool.proofs.Keeping.{kept_free, unmarked}
use Rattle.member_pool.proofs.heads.Heads.set_free.Goals as goal

pub invariant_of-self : goal.invariant_of-self
invariant_of-self c =
    let p = c.self.inside in
    let l : c.args.frame < length p.frames.items = subst (λ (s : HeadState). c.args.frame < length s.frames) (sym c.self.view_is) c.requires.there in
    let none : entry_in p.frames.items c.args.frame ≡ None =
    subst (λ (s : HeadState). entry_in s.frames c.args.frame ≡ None) (sym c.self.view_is) (unmarked (head_of c.args.self.now c.args.frame) c.requires.unchanged) in
    kept_free _ _ _ _ _ _ c.self.invariant c.args.frame l c.free.result c.make_oldest.new.self none c.free.ensures c.make_oldest.ensures.order (c.make_oldest.ensures.whole (length p.frames.items) l c.self.invariant.whole)
