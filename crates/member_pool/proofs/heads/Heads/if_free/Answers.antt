use Rattle.std.proofs.Common.{◌≡◌, ◌<◌, true, false, Some, sym, ap, subst, ◌∙◌, length, slice_get, arith}
use Rattle.std.specs.Prelude.{is_none}
use Rattle.member_pool.specs.Frames.{is_free, frame_at}
use Rattle.member_pool.specs.Heads.{HeadState, free_in}
use Rattle.member_pool.proofs.Fronts.{front_passes, front_fails}
use Rattle.member_pool.proofs.Keeping.{front_within, read_at}
use Rattle.member_pool.proofs.heads.Heads.if_free.Goals as goal

pub index-requires : goal.index-requires
index-requires c =
    let h = c.self.inside in
    let front : slice_get h.order 0 ≡ Some c.args.oldest = subst (λ (s : HeadState). slice_get s.order 0 ≡ Some c.args.oldest) (sym c.self.view_is) c.requires in
    omega (arith, front_within (length h.frames.items) c.args.oldest h.order c.self.invariant.whole.within front, h.frames.ok.0)

pub returns-in-None : goal.returns-in-None
returns-in-None c =
    let h = c.self.inside in
    let front : slice_get h.order 0 ≡ Some c.args.oldest = subst (λ (s : HeadState). slice_get s.order 0 ≡ Some c.args.oldest) (sym c.self.view_is) c.requires in
    let l = front_within (length h.frames.items) c.args.oldest h.order c.self.invariant.whole.within front in
    let passes : is_free (frame_at h.frames.items c.args.oldest) ≡ true =
    sym (ap is_free (read_at h.frames.items c.args.oldest c.index.result.now l c.index.ensures)) ∙ ap is_none c.in-None.is in
    record {
      free = sym (front_passes (λ f. is_free (frame_at h.frames.items f)) c.args.oldest h.order front passes) ∙ ap free_in c.self.view_is;
      there = subst (λ (s : HeadState). c.args.oldest < length s.frames) c.self.view_is l;
    }

pub returns-in-Some : goal.returns-in-Some
returns-in-Some c =
    let h = c.self.inside in
    let front : slice_get h.order 0 ≡ Some c.args.oldest = subst (λ (s : HeadState). slice_get s.order 0 ≡ Some c.args.oldest) (sym c.self.view_is) c.requires in
    let l = front_within (length h.frames.items) c.args.oldest h.order c.self.invariant.whole.within front in
    let fails : is_free (frame_at h.frames.items c.args.oldest) ≡ false =
    sym (ap is_free (read_at h.frames.items c.args.oldest c.index.result.now l c.index.ensures)) ∙ ap is_none c.in-Some.is in
    record {
      free = sym (front_fails (λ f. is_free (frame_at h.frames.items f)) c.args.oldest h.order c.self.invariant.free_first front fails) ∙ ap free_in c.self.view_is;
      there = tt;
    }
