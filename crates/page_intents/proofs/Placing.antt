-- Pages are placed and pinned, and other moves of frames that are none of pages.
use Rattle.std.proofs.Common.{◌≡◌, ◌≢◌, ℕ, zero, suc, ◌<◌, ◌≤◌, refl, sym, ap, subst, ◌∙◌, Bool, true, false, inl, inr, List, [], ◌∷◌, length, Option, Some, None, arith, slice_get, slice_set}
use Rattle.std.specs.Prelude.{◌==◌, ◌&&◌, ◌||◌, ◌+◌, ◌-◌, ◌^◌, ◌⊎◌, nat_lt, find, if◌then◌else◌, is_none, is_some, unwrap_or}
use Rattle.std.proofs.lemmas.Bool.{and_parts, both_ways, cases_eq, cases_lt}
use Rattle.std.proofs.lemmas.List.{length-set}
use Rattle.std.proofs.lemmas.Option.{none-some, same_Some, slice_get_within}
use Rattle.ds_base.specs.declared.names.PageId.{PageId}
use Rattle.facility.specs.States.{Held}
use Rattle.page_index.specs.Places.{AreApart}
use Rattle.member_pool.specs.declared.frame.Frame.{Frame}
use Rattle.member_pool.specs.Frames.{free_frame, frame_at, holding, find_page, page_of, is_free, is_unpinned}
use Rattle.member_pool.specs.Heads.{HeadState, head_of, with_head, placed_in, pinned_to, free_in}
use Rattle.member_marks.specs.State.{MarksState, with_heads}
use Rattle.member_marks.specs.Frames.{frame_in, is_placed, may_pin, may_unpin, placed_at, after_registered}
use Rattle.member_effects.specs.Kept.{Kept}
use Rattle.member_effects.specs.Changes.{bytes_at, with_marks}
use Rattle.page_protocol.specs.Page.{Page}
use Rattle.page_protocol.specs.Moves.{World, Lose, Step}
use Rattle.page_world.specs.Numbers.{page_number, page_at, set_of, AreNumbered as Numbers}
use Rattle.page_world.specs.Holdings.{Copy, no_copy, Holdings, held_of, with_copy, with_facility}
use Rattle.page_world.specs.Tied.{PageTied, bit_in, Tied, Moved}
use Rattle.page_world.specs.Frames.{placed_copy, PlacesStays}
use Rattle.page_world.specs.Losses.{LosesMoves}
use Rattle.cache_structure.specs.Directory.{Directory, bit, is_registered}
use Rattle.page_intents.specs.Numbers.{AreNumbered}
use Rattle.page_intents.specs.Stands.{copy_in, copy_of, IsUp, behind, Goes}
use Rattle.page_intents.specs.Frames.{Begins}
use Rattle.page_intents.specs.Locals.{PlaceGoes, PinGoes, UnpinGoes, StaleGoes, LoseGoes}
use Rattle.page_intents.proofs.Heads.{Sets, SameRest, rest_itself, put_head, at_other, copy_with, placed_is, one_frame, found, is_found, is_missed, found_same}
use Rattle.page_intents.proofs.Chains.{at_none, numbered_on, numbered_along}
use Rattle.page_intents.proofs.Standing.{same_members, Leaves, goes_by, quiet_by}
use Rattle.page_intents.proofs.Testing.{leaves_tested, invalid_tested}
use Rattle.page_intents.proofs.Patching.{all_same}
use Rattle.page_intents.proofs.Casting.{up_beside}
use Rattle.page_intents.proofs.Drawing.{located}

-- ---- frames that the pages can't tell apart
record SameFrames (h u : HeadState) : Type 0 where
  pub page : (q : ℕ) → (frame_in u q).page ≡ (frame_in h q).page
  pub filled : (q : ℕ) → (frame_in u q).filled ≡ (frame_in h q).filled
  pub changed : (q : ℕ) → (frame_in u q).changed ≡ (frame_in h q).changed
  pub registered : (q : ℕ) → (frame_in u q).registered ≡ (frame_in h q).registered
  pub size : length u.frames ≡ length h.frames

same_frames : (h u : HeadState) (at : ℕ) (f : Frame) → Sets h u at f → f.page ≡ (frame_in h at).page → f.filled ≡ (frame_in h at).filled → f.changed ≡ (frame_in h at).changed → f.registered ≡ (frame_in h at).registered → SameFrames h u
same_frames h u at f s page filled changed registered = record {
  page = all_same (λ (z : Frame). z.page) h u at f s page;
  filled = all_same (λ (z : Frame). z.filled) h u at f s filled;
  changed = all_same (λ (z : Frame). z.changed) h u at f s changed;
  registered = all_same (λ (z : Frame). z.registered) h u at f s registered;
  size = s.size;
}

itself : (h : HeadState) → SameFrames h h
itself h = record { page = λ q. refl; filled = λ q. refl; changed = λ q. refl; registered = λ q. refl; size = refl }

same_apart : (h u : HeadState) → SameFrames h u → AreApart page_of h.frames → AreApart page_of u.frames
same_apart h u s apart p q id x y = one_frame h apart p q id (sym (s.page p) ∙ sym (placed_is u.frames p) ∙ x) (sym (s.page q) ∙ sym (placed_is u.frames q) ∙ y)

same_copies : (h u : HeadState) (pages : List (List ℕ)) → SameFrames h u → AreApart page_of h.frames → (n : ℕ) → copy_of u pages n ≡ copy_of h pages n
same_copies h u pages s apart n = ap (copy_in u pages) (found_same h u (page_at n) (same_apart h u s apart) (λ q e. sym (s.page q) ∙ e) (λ q e. s.page q ∙ e)) ∙ by (find_page h.frames (page_at n))
  where
    by : (o : Option ℕ) → copy_in u pages o ≡ copy_in h pages o
    by None = refl
    by (Some q) =
        let filled = s.filled q in
        let changed = s.changed q in
        let registered = s.registered q in
        λ i. record { placed = true; index = q; filled = filled i; marked = changed i; noted = registered i || filled i; bytes = bytes_at pages q }

same_goes : (w : World) (g : Holdings) (content : ℕ → ℕ → List ℕ) (forced : ℕ → ℕ) (k : Kept) (t : MarksState) → Begins w g content forced k → SameRest k.marks t → SameFrames k.marks.heads t.heads
    → Goes w content forced (behind g g.facility k.marks.member (with_marks k t)) k.marks (with_marks k t)
same_goes w g content forced k t b rest s =
    quiet_by w g content forced g.facility k (with_marks k t) 0 b.tied b.numbered b.up
    (record {
      rest = rest;
      apart = same_apart k.marks.heads t.heads s b.up.apart;
      each = b.up.each ∙ sym s.size;
      here = same_copies k.marks.heads t.heads k.pages s b.up.apart 0 ∙ sym (b.up.copies 0);
      there = λ j ne. same_copies k.marks.heads t.heads k.pages s b.up.apart j;
    }) refl

-- ---- pins
pinned_within : (h : HeadState) (at : ℕ) → nat_lt 0 (frame_in h at).pins ≡ true → at < length h.frames
pinned_within h at e = by (slice_get h.frames at) refl
  where
    by : (o : Option Frame) → slice_get h.frames at ≡ o → at < length h.frames
    by None is = absurd (both_ways (nat_lt 0 (frame_in h at).pins) (ap (λ (z : Option Frame). nat_lt 0 (unwrap_or z free_frame).pins) is) e)
    by (Some x) is = slice_get_within h.frames at x is

placed_within : (h : HeadState) (at : ℕ) → is_placed h at ≡ true → at < length h.frames
placed_within h at e = by (slice_get h.frames at) refl
  where
    by : (o : Option Frame) → slice_get h.frames at ≡ o → at < length h.frames
    by None is = absurd (both_ways (is_some (frame_in h at).page) (ap (λ (z : Option Frame). is_some (unwrap_or z free_frame).page) is) e)
    by (Some x) is = slice_get_within h.frames at x is

pinned_frames : (h : HeadState) (at n : ℕ) → at < length h.frames → SameFrames h (pinned_to h at n)
pinned_frames h at n l =
    let f : Frame = record (frame_in h at) { pins = n } in
    let s = put_head h at f l in
    same_frames h (pinned_to h at n) at f (record { is = s.is; others = s.others; size = s.size }) refl refl refl refl

pub pin_goes : PinGoes
pin_goes w g content forced k at b = by (may_pin k.marks.heads at) refl
  where
    u : MarksState
    u = with_heads k.marks (pinned_to k.marks.heads at ((head_of k.marks.heads at).pins + 1))

    by : (x : Bool) → may_pin k.marks.heads at ≡ x → Goes w content forced (behind g g.facility k.marks.member (with_marks k (if x then u else k.marks))) k.marks (with_marks k (if x then u else k.marks))
    by false e = same_goes w g content forced k k.marks b (rest_itself k.marks) (itself k.marks.heads)
    by true e = same_goes w g content forced k u b (record { member = refl; locks = refl; log = refl }) (pinned_frames k.marks.heads at ((head_of k.marks.heads at).pins + 1) (placed_within k.marks.heads at (and_parts (is_placed k.marks.heads at) (nat_lt (frame_in k.marks.heads at).pins (2 ^ 32 - 1)) e).0))

pub unpin_goes : UnpinGoes
unpin_goes w g content forced k at b = by (may_unpin k.marks.heads at) refl
  where
    u : MarksState
    u = with_heads k.marks (with_head k.marks.heads at (record (head_of k.marks.heads at) { pins = (head_of k.marks.heads at).pins - 1 }))

    by : (x : Bool) → may_unpin k.marks.heads at ≡ x → Goes w content forced (behind g g.facility k.marks.member (with_marks k (if x then u else k.marks))) k.marks (with_marks k (if x then u else k.marks))
    by false e = same_goes w g content forced k k.marks b (rest_itself k.marks) (itself k.marks.heads)
    by true e =
        let f : Frame = record (head_of k.marks.heads at) { pins = (head_of k.marks.heads at).pins - 1 } in
        same_goes w g content forced k u b (record { member = refl; locks = refl; log = refl }) (same_frames k.marks.heads (with_head k.marks.heads at f) at f (put_head k.marks.heads at f (pinned_within k.marks.heads at e)) refl refl refl refl)

-- ---- a copy that a draw found stale
pub stale_goes : Numbers → StaleGoes
stale_goes numbers w g content forced k at page b h =
    quiet_by w g content forced g.facility k (with_marks k (after_registered k.marks at false)) (page_number h.own) b.tied b.numbered b.up
    (leaves_tested numbers g forced k (after_registered k.marks at false) at false h.own b.up h.placed h.filled (invalid_tested k.marks at)) refl

-- ---- the loss
lost_numbered : (w v : World) (content : ℕ → ℕ → List ℕ) (forced : ℕ → ℕ) → Step set_of w Lose v → AreNumbered w content forced → AreNumbered v content forced
lost_numbered w v content forced s t = subst (λ z. AreNumbered z content forced) (sym s.2) (numbered_along w _ content forced (λ n. refl) refl refl t)

lose_by : (w : World) (g : Holdings) (content : ℕ → ℕ → List ℕ) (forced : ℕ → ℕ) (k : Kept) (v : Held) (x : Bool) → Begins w g content forced k → IsUp (with_facility g v) forced k → Moved w (if x then [] else Lose ∷ []) (with_facility g v) content
    → Goes w content forced (with_facility g v) k.marks k
lose_by w g content forced k v true b up m = record { moves = []; moved = m; plain = tt; numbered = numbered_on w m.world [] content forced at_none m.run b.numbered; same = refl; stands = up }
lose_by w g content forced k v false b up m = record {
  moves = Lose ∷ [];
  moved = m;
  plain = (refl, tt);
  numbered = subst (λ z. AreNumbered z content forced) (sym m.run.2) (lost_numbered w m.run.0 content forced m.run.1 b.numbered);
  same = refl;
  stands = up;
}

pub lose_goes : LosesMoves → LoseGoes
lose_goes law w g content forced k answer v b r =
    lose_by w g content forced k v g.facility.directory.lost b (up_beside g forced k v g.casts g.disk b.up (same_members g.facility v _ r.1 (record { members = refl; statuses = refl; counter = refl }))) (law w g content answer v b.good b.tied r)

-- ---- bytes of a copy that isn't filled are nobody's
record Loose (a c : Copy) : Type 0 where
  pub placed : c.placed ≡ a.placed
  pub index : c.index ≡ a.index
  pub filled : c.filled ≡ a.filled
  pub marked : c.marked ≡ a.marked
  pub noted : c.noted ≡ a.noted
  pub bytes : a.filled ≡ true → c.bytes ≡ a.bytes

same_bit : (d : Directory) (id : PageId) (m : ℕ) (a c : Copy) → Loose a c → bit_in c (is_registered d id m c.index) ≡ bit_in a (is_registered d id m a.index)
same_bit d id m a c l =
    let placed = l.placed in
    let noted = l.noted in
    let index = l.index in
    λ i. placed i && (noted i && is_registered d id m (index i))

page_loose : (g : Holdings) (now : ℕ → ℕ → Copy) (n : ℕ) (p : Page) (content : ℕ → List ℕ) → ((m : ℕ) → Loose (g.copies m n) (now m n)) → PageTied (held_of g n) p content → PageTied (held_of (record g { copies = now }) n) p content
page_loose g now n p content loose t = record {
  bytes = t.bytes;
  changed = t.changed;
  there = t.there;
  castout = t.castout;
  written = t.written;
  disk = t.disk;
  bit = λ m. same_bit g.facility.directory (page_at n) m (g.copies m n) (now m n) (loose m) ∙ t.bit m;
  own = λ m x y z. (let l = loose m in ap (is_registered g.facility.directory (page_at n) m) l.index ∙ t.own m (sym l.placed ∙ x) (sym l.noted ∙ y) (sym (ap (bit g.facility.directory m) l.index) ∙ z));
  filled = λ m. (let l = loose m in l.filled ∙ t.filled m);
  marked = λ m. (let l = loose m in l.marked ∙ t.marked m);
  same = λ m f. (let l = loose m in l.bytes (t.filled m ∙ f) ∙ t.same m f);
  indirect = t.indirect;
  buffer = t.buffer;
  sent = t.sent;
  owner = t.owner;
  part = t.part;
}

tied_loose : (w : World) (g : Holdings) (content : ℕ → ℕ → List ℕ) (now : ℕ → ℕ → Copy) → Tied w g content → ((m n : ℕ) → Loose (g.copies m n) (now m n)) → Tied w (record g { copies = now }) content
tied_loose w g content now t loose = record {
  running = t.running;
  lost = t.lost;
  counter = t.counter;
  status = t.status;
  stable = t.stable;
  written = t.written;
  apart = λ m n j x y e. (let a = loose m n in let c = loose m j in t.apart m n j (sym a.placed ∙ x) (sym c.placed ∙ y) (sym a.index ∙ e ∙ c.index));
  pages = λ n. page_loose g now n (w.pages n) (content n) (λ m. loose m n) (t.pages n);
}

tight : (a c : Copy) → c ≡ a → Loose a c
tight a c e = subst (λ z. Loose a z) (sym e) (record { placed = refl; index = refl; filled = refl; marked = refl; noted = refl; bytes = λ _. refl })

-- ---- a page is placed
beyond : (xs : List Frame) (at : ℕ) → length xs ≤ at → frame_at xs at ≡ free_frame
beyond [] at l = refl
beyond (x ∷ xs) zero l = absurd (omega (arith, l))
beyond (x ∷ xs) (suc at) l = beyond xs at (omega (arith, l))

-- a frame past the end is none
placed_past : (h : HeadState) (at : ℕ) (id : PageId) → length h.frames ≤ at → SameFrames h (placed_in h at id)
placed_past h at id l = record {
  page = λ q. ap (λ (z : Frame). z.page) (same q);
  filled = λ q. ap (λ (z : Frame). z.filled) (same q);
  changed = λ q. ap (λ (z : Frame). z.changed) (same q);
  registered = λ q. ap (λ (z : Frame). z.registered) (same q);
  size = length-set h.frames at (holding id);
}
  where
    same : (q : ℕ) → frame_in (placed_in h at id) q ≡ frame_in h q
    same q = elim (cases_eq q at) [
      | inl e ↦ ap (frame_at (slice_set h.frames at (holding id))) e ∙ beyond (slice_set h.frames at (holding id)) at (subst (λ z. z ≤ at) (sym (length-set h.frames at (holding id))) l) ∙ sym (beyond h.frames at l) ∙ sym (ap (frame_at h.frames) e)
      | inr ne ↦ at_other h.frames at q (holding id) ne
    ]

module _ (numbers : Numbers) (g : Holdings) (forced : ℕ → ℕ) (k : Kept) (at : ℕ) (id : PageId) (up : IsUp g forced k) (l : at < length k.marks.heads.frames) (free : (frame_in k.marks.heads at).page ≡ None) (missed : find_page k.marks.heads.frames id ≡ None) where
  sets_placed : Sets k.marks.heads (placed_in k.marks.heads at id) at (holding id)
  sets_placed = let s = put_head k.marks.heads at (holding id) l in record { is = s.is; others = s.others; size = s.size }

  page_here : (frame_in (placed_in k.marks.heads at id) at).page ≡ Some id
  page_here = ap (λ (z : Frame). z.page) sets_placed.is

  -- all frames but this one are as before
  page_before : (q : ℕ) (x : PageId) → (frame_in (placed_in k.marks.heads at id) q).page ≡ Some x → (q ≡ at) ⊎ ((q ≢ at) × ((frame_in k.marks.heads q).page ≡ Some x))
  page_before q x e = elim (cases_eq q at) [
    | inl z ↦ inl z
    | inr ne ↦ inr (ne, sym (ap (λ (z : Frame). z.page) (sets_placed.others q ne)) ∙ e)
  ]

  was_id : (x : PageId) → (frame_in (placed_in k.marks.heads at id) at).page ≡ Some x → x ≡ id
  was_id x e = same_Some x id (sym e ∙ page_here)

  pub place_apart : AreApart page_of (placed_in k.marks.heads at id).frames
  place_apart p q x a c = by (page_before p x (sym (placed_is (placed_in k.marks.heads at id).frames p) ∙ a)) (page_before q x (sym (placed_is (placed_in k.marks.heads at id).frames q) ∙ c))
    where
      by : (p ≡ at) ⊎ ((p ≢ at) × ((frame_in k.marks.heads p).page ≡ Some x)) → (q ≡ at) ⊎ ((q ≢ at) × ((frame_in k.marks.heads q).page ≡ Some x)) → p ≡ q
      by (inl e) (inl f) = e ∙ sym f
      by (inl e) (inr f) = absurd (is_missed k.marks.heads q id missed (f.1 ∙ ap Some (was_id x (ap (λ z. (frame_in (placed_in k.marks.heads at id) z).page) (sym e) ∙ sym (placed_is (placed_in k.marks.heads at id).frames p) ∙ a))))
      by (inr e) (inl f) = absurd (is_missed k.marks.heads p id missed (e.1 ∙ ap Some (was_id x (ap (λ z. (frame_in (placed_in k.marks.heads at id) z).page) (sym f) ∙ sym (placed_is (placed_in k.marks.heads at id).frames q) ∙ c))))
      by (inr e) (inr f) = one_frame k.marks.heads up.apart p q x e.1 f.1

  not_here : (q : ℕ) (x : PageId) → (frame_in k.marks.heads q).page ≡ Some x → q ≢ at
  not_here q x e z = none-some x (sym free ∙ ap (λ y. (frame_in k.marks.heads y).page) (sym z) ∙ e)

  found_else : (j : ℕ) → j ≢ page_number id → find_page (placed_in k.marks.heads at id).frames (page_at j) ≡ find_page k.marks.heads.frames (page_at j)
  found_else j ne = found_same k.marks.heads (placed_in k.marks.heads at id) (page_at j) place_apart was (λ q e. ap (λ (z : Frame). z.page) (sets_placed.others q (not_here q (page_at j) e)) ∙ e)
    where
      was : (q : ℕ) → (frame_in (placed_in k.marks.heads at id) q).page ≡ Some (page_at j) → (frame_in k.marks.heads q).page ≡ Some (page_at j)
      was q e = elim (page_before q (page_at j) e) [
        | inl z ↦ absurd (ne (sym (numbers.numbered j) ∙ ap page_number (was_id (page_at j) (ap (λ y. (frame_in (placed_in k.marks.heads at id) y).page) (sym z) ∙ e))))
        | inr f ↦ f.1
      ]

  pub place_there : (j : ℕ) → j ≢ page_number id → copy_of (placed_in k.marks.heads at id) k.pages j ≡ copy_of k.marks.heads k.pages j
  place_there j ne = ap (copy_in (placed_in k.marks.heads at id) k.pages) (found_else j ne) ∙ by (find_page k.marks.heads.frames (page_at j)) refl
    where
      by : (o : Option ℕ) → find_page k.marks.heads.frames (page_at j) ≡ o → copy_in (placed_in k.marks.heads at id) k.pages o ≡ copy_in k.marks.heads k.pages o
      by None e = refl
      by (Some q) e = ap (λ f. copy_with q f (bytes_at k.pages q)) (sets_placed.others q (not_here q (page_at j) (is_found k.marks.heads q (page_at j) e)))

  -- the copy of the page is a new one, whatever bytes lie there
  pub place_here : copy_of (placed_in k.marks.heads at id) k.pages (page_number id) ≡ copy_with at (holding id) (bytes_at k.pages at)
  place_here =
      ap (copy_in (placed_in k.marks.heads at id) k.pages) (ap (find_page (placed_in k.marks.heads at id).frames) (numbers.named id) ∙ found (placed_in k.marks.heads at id) at id place_apart page_here)
      ∙ ap (λ f. copy_with at f (bytes_at k.pages at)) sets_placed.is

  pub no_copy_yet : g.copies k.marks.member (page_number id) ≡ no_copy
  no_copy_yet = up.copies (page_number id) ∙ ap (copy_in k.marks.heads k.pages) (ap (find_page k.marks.heads.frames) (numbers.named id) ∙ missed)

  pub no_other : (j : ℕ) → (g.copies k.marks.member j).placed ≡ true → (g.copies k.marks.member j).index ≢ at
  no_other j placed e =
      let it = located g forced k j up placed in
      not_here it.at (page_at j) it.page (sym (ap (λ (c : Copy). c.index) it.copy) ∙ e)

  pub place_leaves : Leaves k (with_marks k (with_heads k.marks (placed_in k.marks.heads at id))) (page_number id) (copy_with at (holding id) (bytes_at k.pages at))
  place_leaves = record {
    rest = record { member = refl; locks = refl; log = refl };
    apart = place_apart;
    each = up.each ∙ sym sets_placed.size;
    here = place_here;
    there = place_there;
  }

loosened : (g : Holdings) (m n at : ℕ) (id : PageId) (bytes : List ℕ) (p j : ℕ) → Loose ((with_copy g m n (placed_copy at)).copies p j) ((with_copy g m n (copy_with at (holding id) bytes)).copies p j)
loosened g m n at id bytes p j = by ((p == m) && (j == n))
  where
    by : (x : Bool) → Loose (if x then placed_copy at else g.copies p j) (if x then copy_with at (holding id) bytes else g.copies p j)
    by true = record { placed = refl; index = refl; filled = refl; marked = refl; noted = refl; bytes = λ e. absurd (cc e) }
    by false = tight (g.copies p j) (g.copies p j) refl

placed_goes : Numbers → PlacesStays → (w : World) (g : Holdings) (content : ℕ → ℕ → List ℕ) (forced : ℕ → ℕ) (k : Kept) (at : ℕ) (id : PageId) → Begins w g content forced k → at < length k.marks.heads.frames → (frame_in k.marks.heads at).page ≡ None
    → find_page k.marks.heads.frames id ≡ None → (let t = with_marks k (with_heads k.marks (placed_in k.marks.heads at id)) in Goes w content forced (behind g g.facility k.marks.member t) k.marks t)
placed_goes numbers law w g content forced k at id b l free missed =
    let m = k.marks.member in
    let n = page_number id in
    let c = copy_with at (holding id) (bytes_at k.pages at) in
    let moved = law w g content m n at b.tied (no_copy_yet numbers g forced k at id b.up l free missed) (no_other numbers g forced k at id b.up l free missed) in
    goes_by w g content forced g.facility k (with_marks k (with_heads k.marks (placed_in k.marks.heads at id))) n c [] b.numbered b.up (place_leaves numbers g forced k at id b.up l free missed) (record { members = refl; statuses = refl; counter = refl }) at_none
    (record { world = moved.world; run = moved.run; tied = tied_loose moved.world (with_copy g m n (placed_copy at)) content (with_copy g m n c).copies moved.tied (λ p j. loosened g m n at id (bytes_at k.pages at) p j) })

passes_by : (p : ℕ → Bool) (x at : ℕ) (rest : Option ℕ) (b : Bool) → (rest ≡ Some at → p at ≡ true) → p x ≡ b → (if b then Some x else rest) ≡ Some at → p at ≡ true
passes_by p x at rest true ih is f = ap p (sym (same_Some x at f)) ∙ is
passes_by p x at rest false ih is f = ih f

found_passes : (p : ℕ → Bool) (xs : List ℕ) (at : ℕ) → find p xs ≡ Some at → p at ≡ true
found_passes p [] at e = absurd (cc e)
found_passes p (x ∷ xs) at e = passes_by p x at (find p xs) (p x) (found_passes p xs at) refl e

free_is : (f : Frame) → is_free f ≡ true → f.page ≡ None
free_is f e = by f.page e
  where
    by : (o : Option PageId) → is_none o ≡ true → o ≡ None
    by None e = refl
    by (Some x) e = absurd (cc e)

pub place_goes : Numbers → PlacesStays → PlaceGoes
place_goes numbers law w g content forced k id b = by (find_page k.marks.heads.frames id) refl
  where
    stays : Goes w content forced (behind g g.facility k.marks.member (with_marks k k.marks)) k.marks (with_marks k k.marks)
    stays = same_goes w g content forced k k.marks b (rest_itself k.marks) (itself k.marks.heads)

    in_frame : (at : ℕ) → find_page k.marks.heads.frames id ≡ None → (frame_in k.marks.heads at).page ≡ None → (let t = with_marks k (with_heads k.marks (placed_in k.marks.heads at id)) in Goes w content forced (behind g g.facility k.marks.member t) k.marks t)
    in_frame at missed free = elim (cases_lt at (length k.marks.heads.frames)) [
      | inl l ↦ placed_goes numbers law w g content forced k at id b l free missed
      | inr past ↦ same_goes w g content forced k (with_heads k.marks (placed_in k.marks.heads at id)) b (record { member = refl; locks = refl; log = refl }) (placed_past k.marks.heads at id past)
    ]

    third : (at : ℕ) (x : Bool) → find_page k.marks.heads.frames id ≡ None → (frame_in k.marks.heads at).page ≡ None
        → (let t = with_marks k (if x then with_heads k.marks (placed_in k.marks.heads at id) else k.marks) in Goes w content forced (behind g g.facility k.marks.member t) k.marks t)
    third at true missed free = in_frame at missed free
    third at false missed free = stays

    inner : (o : Option ℕ) → free_in k.marks.heads ≡ o → find_page k.marks.heads.frames id ≡ None → (let t = with_marks k (placed_at k.marks id o) in Goes w content forced (behind g g.facility k.marks.member t) k.marks t)
    inner None e missed = stays
    inner (Some at) e missed = third at (is_unpinned (head_of k.marks.heads at)) missed (free_is (frame_in k.marks.heads at) (found_passes (λ f. is_free (head_of k.marks.heads f)) k.marks.heads.order at e))

    by : (o : Option ℕ) → find_page k.marks.heads.frames id ≡ o → (let t = with_marks k (if is_none o then placed_at k.marks id (free_in k.marks.heads) else k.marks) in Goes w content forced (behind g g.facility k.marks.member t) k.marks t)
    by None e = inner (free_in k.marks.heads) refl e
    by (Some q) e = stays
