use Rattle.std.proofs.Common.{refl, sym, ap, ◌∙◌, ◌<◌, length, subst, slice_set}
use Rattle.member_pool.specs.declared.frame.Frame.{Frame}
use Rattle.member_pool.specs.Heads.{HeadState, with_head, head_of}
use Rattle.member_pool.proofs.Keeping.{kept_marked, read_at}
use Rattle.member_pool.proofs.heads.Heads.set_registered.Goals as goal

pub invariant_of-self : goal.invariant_of-self
invariant_of-self c =
    let l : c.args.frame < length c.self.inside.frames.items = subst (λ (s : HeadState). c.args.frame < length s.frames) (sym c.self.view_is) c.requires.there in
    kept_marked _ _ _ _ _ _ c.self.invariant c.args.frame l c.index-held.result.now _ c.index-held.ensures refl refl

pub returns : goal.returns
returns c =
    let h = c.self.inside in
    let l : c.args.frame < length h.frames.items = subst (λ (s : HeadState). c.args.frame < length s.frames) (sym c.self.view_is) c.requires.there in
    let with : Frame → HeadState = λ x. record { frames = slice_set h.frames.items c.args.frame (record x { registered = c.args.registered }); order = h.order } in
    ap with (read_at h.frames.items c.args.frame c.index-held.result.now l c.index-held.ensures)
    ∙ ap (λ (s : HeadState). with_head s c.args.frame (record (head_of s c.args.frame) { registered = c.args.registered })) c.self.view_is
