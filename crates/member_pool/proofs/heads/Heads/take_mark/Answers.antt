use Rattle.std.proofs.Common.{◌≡◌, ◌<◌, false, Option, Some, None, sym, ap, subst, ◌∙◌, length, slice_set, arith, List, refl}
use Rattle.write_order.specs.declared.key.WriteKey.{WriteKey}
use Rattle.member_pool.specs.declared.frame.Frame.{Frame}
use Rattle.member_pool.specs.Heads.{HeadState, written}
use Rattle.member_pool.specs.Marks.{entry_of}
use Rattle.member_pool.specs.Listed.{entry_in, with_entry, IsListed, AreMarked}
use Rattle.member_pool.proofs.Keeping.{kept_listed, unmarked, read_at}
use Rattle.member_pool.proofs.Tallies.{marked_less}
use Rattle.member_pool.proofs.heads.Heads.take_mark.Goals as goal

pub invariant_of-self : goal.invariant_of-self
invariant_of-self c =
    let h = c.self.inside in
    let l : c.args.frame < length h.frames.items = subst (λ (s : HeadState). c.args.frame < length s.frames) (sym c.self.view_is) c.requires.there in
    let here : entry_in h.frames.items c.args.frame ≡ Some c.args.key = subst (λ (s : HeadState). entry_in s.frames c.args.frame ≡ Some c.args.key) (sym c.self.view_is) c.requires.changed in
    let entry : entry_of (record c.index-held.result.now { changed = false }) ≡ None = unmarked (record c.index-held.result.now { changed = false }) refl in
    kept_listed _ _ _ _ _ _ c.self.invariant c.args.frame l c.index-held.result.now _ c.unlist.new.listed.items _ c.take.new.self c.index-held.ensures refl
    (subst (λ (o : Option WriteKey). AreMarked (with_entry (entry_in h.frames.items) c.args.frame o) (length h.frames.items) c.unlist.new.listed.items c.take.new.self) (sym entry)
    (marked_less (entry_in h.frames.items) (length h.frames.items) h.listed.items h.counts c.self.invariant.marked c.args.frame l c.args.key here c.unlist.new.listed.items c.take.new.self
    (subst (λ (fs : List Frame). IsListed (with_entry (entry_in fs) c.args.frame None) c.unlist.new.listed.items) c.as_slice.ensures.value c.unlist.ensures.listed)
    (omega (arith, c.unlist.ensures.len, h.listed.ok.0, c.unlist.new.listed.ok.0)) c.take.ensures))
    (omega (arith, c.unlist.ensures.capacity))

pub returns : goal.returns
returns c =
    let h = c.self.inside in
    let l : c.args.frame < length h.frames.items = subst (λ (s : HeadState). c.args.frame < length s.frames) (sym c.self.view_is) c.requires.there in
    let with : Frame → HeadState = λ x. record { frames = slice_set h.frames.items c.args.frame (record x { changed = false }); order = h.order } in
    ap with (read_at h.frames.items c.args.frame c.index-held.result.now l c.index-held.ensures)
    ∙ ap (λ (s : HeadState). written s c.args.frame) c.self.view_is
