use Rattle.std.proofs.Common.{◌≡◌, ◌≢◌, ◌<◌, ℕ, true, Option, Some, None, sym, ap, subst, ◌∙◌, length, slice_set, arith, List, refl}
use Rattle.std.specs.Prelude.{is_some}
use Rattle.write_order.specs.declared.key.WriteKey.{WriteKey}
use Rattle.member_pool.specs.declared.frame.Frame.{Frame}
use Rattle.member_pool.specs.Frames.{frame_at}
use Rattle.member_pool.specs.Heads.{HeadState, head_of, with_head}
use Rattle.member_pool.specs.Marks.{entry_with}
use Rattle.member_pool.specs.Listed.{entry_in, with_entry, IsListed, AreMarked}
use Rattle.member_pool.proofs.Keeping.{kept_listed, no_other, unmarked, read_at}
use Rattle.member_pool.proofs.Tallies.{tally_below, room_to_add, marked_more}
use Rattle.member_pool.proofs.heads.Heads.set_mark.Goals as goal

pub list-requires-clause-room : goal.list-requires-clause-room
list-requires-clause-room c =
    let h = c.self.inside in
    let l : c.args.frame < length h.frames.items = subst (λ (s : HeadState). c.args.frame < length s.frames) (sym c.self.view_is) c.requires.there in
    let none : entry_in h.frames.items c.args.frame ≡ None =
    subst (λ (s : HeadState). entry_in s.frames c.args.frame ≡ None) (sym c.self.view_is) (unmarked (head_of c.args.self.now c.args.frame) c.requires.unchanged) in
    omega (arith, tally_below (λ f. is_some (entry_in h.frames.items f)) (length h.frames.items) c.args.frame l (ap is_some none), c.self.invariant.marked.long, c.self.invariant.list_room, h.listed.ok.0)

pub list-requires-clause-apart : goal.list-requires-clause-apart
list-requires-clause-apart c =
    let h = c.self.inside in
    let l : c.args.frame < length h.frames.items = subst (λ (s : HeadState). c.args.frame < length s.frames) (sym c.self.view_is) c.requires.there in
    let none : entry_in h.frames.items c.args.frame ≡ None =
    subst (λ (s : HeadState). entry_in s.frames c.args.frame ≡ None) (sym c.self.view_is) (unmarked (head_of c.args.self.now c.args.frame) c.requires.unchanged) in
    let page : (frame_at h.frames.items c.args.frame).page ≡ Some c.in-Some.page =
    sym (ap (λ (x : Frame). x.page) (read_at h.frames.items c.args.frame c.index-held.result.now l c.index-held.ensures)) ∙ c.in-Some.is in
    subst (λ (fs : List Frame). (g : ℕ) (other : WriteKey) → entry_in fs g ≡ Some other → other.page ≢ c.in-Some.page) (sym c.as_slice.ensures.value)
    (no_other _ _ _ _ _ _ c.self.invariant c.args.frame l c.in-Some.page page none)

pub add-requires : goal.add-requires
add-requires c =
    let h = c.self.inside in
    let l : c.args.frame < length h.frames.items = subst (λ (s : HeadState). c.args.frame < length s.frames) (sym c.self.view_is) c.requires.there in
    let none : entry_in h.frames.items c.args.frame ≡ None =
    subst (λ (s : HeadState). entry_in s.frames c.args.frame ≡ None) (sym c.self.view_is) (unmarked (head_of c.args.self.now c.args.frame) c.requires.unchanged) in
    room_to_add (entry_in h.frames.items) (length h.frames.items) h.listed.items h.counts c.self.invariant.marked c.args.frame l (record { rank = c.args.rank; page = c.in-Some.page }) none c.self.invariant.small

pub invariant_of-self : goal.invariant_of-self
invariant_of-self c =
    let h = c.self.inside in
    let l : c.args.frame < length h.frames.items = subst (λ (s : HeadState). c.args.frame < length s.frames) (sym c.self.view_is) c.requires.there in
    let none : entry_in h.frames.items c.args.frame ≡ None =
    subst (λ (s : HeadState). entry_in s.frames c.args.frame ≡ None) (sym c.self.view_is) (unmarked (head_of c.args.self.now c.args.frame) c.requires.unchanged) in
    let key : WriteKey = record { rank = c.args.rank; page = c.in-Some.page } in
    let entry : entry_with c.index-held.result.now.page true c.args.rank ≡ Some key = ap (λ o. entry_with o true c.args.rank) c.in-Some.is in
    kept_listed _ _ _ _ _ _ c.self.invariant c.args.frame l c.index-held.result.now _ c.list.new.listed.items _ c.add.new.self c.index-held.ensures refl
    (subst (λ (o : Option WriteKey). AreMarked (with_entry (entry_in h.frames.items) c.args.frame o) (length h.frames.items) c.list.new.listed.items c.add.new.self) (sym entry)
    (marked_more (entry_in h.frames.items) (length h.frames.items) h.listed.items h.counts c.self.invariant.marked c.args.frame l key none c.list.new.listed.items c.add.new.self
    (subst (λ (fs : List Frame). IsListed (with_entry (entry_in fs) c.args.frame (Some key)) c.list.new.listed.items) c.as_slice.ensures.value c.list.ensures.listed)
    (omega (arith, c.list.ensures.len, h.listed.ok.0, c.list.new.listed.ok.0)) c.add.ensures))
    c.list.ensures.capacity

pub returns : goal.returns
returns c =
    let h = c.self.inside in
    let l : c.args.frame < length h.frames.items = subst (λ (s : HeadState). c.args.frame < length s.frames) (sym c.self.view_is) c.requires.there in
    let with : Frame → HeadState = λ x. record { frames = slice_set h.frames.items c.args.frame (record x { changed = true; rank = c.args.rank }); order = h.order } in
    ap with (read_at h.frames.items c.args.frame c.index-held.result.now l c.index-held.ensures)
    ∙ ap (λ (s : HeadState). with_head s c.args.frame (record (head_of s c.args.frame) { changed = true; rank = c.args.rank })) c.self.view_is
