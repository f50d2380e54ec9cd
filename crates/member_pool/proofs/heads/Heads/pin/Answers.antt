use Rattle.std.proofs.Common.{refl, sym, ap, ◌∙◌, ◌≡◌, ◌<◌, ◌+◌, ℕ, List, length, subst, slice_set, false}
use Rattle.std.specs.Prelude.{IsSome}
use Rattle.ds_base.specs.declared.names.PageId.{PageId}
use Rattle.std.specs.Prelude.{Option, Some, None, is_none}
use Rattle.member_pool.specs.declared.frame.Frame.{Frame}
use Rattle.member_pool.specs.Frames.{frame_at, is_free}
use Rattle.member_pool.specs.Heads.{HeadState, pinned_to, head_of}
use Rattle.member_pool.proofs.Keeping.{kept_newest, read_at}
use Rattle.member_pool.proofs.heads.Heads.pin.Goals as goal

taken : (o : Option PageId) → IsSome o → is_none o ≡ false
taken None h = sym h
taken (Some id) h = refl

pub invariant_of-self : goal.invariant_of-self
invariant_of-self c =
    let l : c.args.frame < length c.self.inside.frames.items = subst (λ (s : HeadState). c.args.frame < length s.frames) (sym c.self.view_is) c.requires.there in
    let full : is_free c.index-held.result.now ≡ false =
    ap is_free (read_at c.self.inside.frames.items c.args.frame c.index-held.result.now l c.index-held.ensures)
    ∙ ap (λ (s : HeadState). is_free (head_of s c.args.frame)) c.self.view_is
    ∙ taken (head_of c.args.self.now c.args.frame).page c.requires.placed in
    kept_newest _ _ _ _ _ _ c.self.invariant c.args.frame l c.index-held.result.now _ c.make_newest.new.self c.index-held.ensures refl refl full c.make_newest.ensures.order
    (c.make_newest.ensures.whole (length c.self.inside.frames.items) l c.self.invariant.whole)

pub returns : goal.returns
returns c =
    let p = c.self.inside in
    let l : c.args.frame < length c.self.inside.frames.items = subst (λ (s : HeadState). c.args.frame < length s.frames) (sym c.self.view_is) c.requires.there in
    let is = read_at p.frames.items c.args.frame c.index-held.result.now l c.index-held.ensures in
    let at : Frame → List ℕ → HeadState = λ x order. record { frames = slice_set p.frames.items c.args.frame (record x { pins = x.pins + 1 }); order = order } in
    ap (λ x. at x c.make_newest.new.self) is
    ∙ ap (at (frame_at p.frames.items c.args.frame)) c.make_newest.ensures.order
    ∙ ap (λ (s : HeadState). pinned_to s c.args.frame ((head_of s c.args.frame).pins + 1)) c.self.view_is
