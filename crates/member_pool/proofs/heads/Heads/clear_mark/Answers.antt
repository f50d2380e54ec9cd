use Rattle.std.proofs.Common.{◌≡◌, ◌<◌, None, sym, ap, subst, ◌∙◌, length, slice_set, false, refl}
use Rattle.member_pool.specs.declared.frame.Frame.{Frame}
use Rattle.member_pool.specs.Heads.{HeadState, written}
use Rattle.member_pool.specs.Marks.{entry_of}
use Rattle.member_pool.proofs.Keeping.{kept_marked, unmarked, read_at}
use Rattle.member_pool.proofs.heads.Heads.clear_mark.Goals as goal

pub invariant_of-self : goal.invariant_of-self
invariant_of-self c =
    let h = c.self.inside in
    let l : c.args.frame < length h.frames.items = subst (λ (s : HeadState). c.args.frame < length s.frames) (sym c.self.view_is) c.requires in
    let entry : entry_of (record c.index.result.now { changed = false }) ≡ None = unmarked (record c.index.result.now { changed = false }) refl in
    kept_marked _ _ _ _ _ _ c.self.invariant c.args.frame l c.index.result.now _ c.index.ensures refl (entry ∙ sym (sym c.entry.ensures ∙ c.in-None.is))

pub returns-in-None : goal.returns-in-None
returns-in-None c =
    let h = c.self.inside in
    let l : c.args.frame < length h.frames.items = subst (λ (s : HeadState). c.args.frame < length s.frames) (sym c.self.view_is) c.requires in
    let with : Frame → HeadState = λ x. record { frames = slice_set h.frames.items c.args.frame (record x { changed = false }); order = h.order } in
    ap with (read_at h.frames.items c.args.frame c.index.result.now l c.index.ensures)
    ∙ ap (λ (s : HeadState). written s c.args.frame) c.self.view_is
