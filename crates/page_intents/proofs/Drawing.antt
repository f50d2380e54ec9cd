-- A number is drawn for a log record that changes the pages in some frames.
use Rattle.std.proofs.Common.{◌≡◌, ◌≢◌, ℕ, ◌+◌, ◌<◌, ◌≤◌, refl, sym, ap, subst, ◌∙◌, Bool, true, false, inl, inr, List, [], ◌∷◌, length, Option, Some, None, arith}
use Rattle.std.specs.Prelude.{◌==◌, ◌&&◌, ◌||◌, if◌then◌else◌, is_some}
use Rattle.std.specs.List.{list_any}
use Rattle.std.proofs.lemmas.Bool.{cond-true, cond-false, both_ways, cases_eq, and_parts, eq-eqb, eqb-true, ne_eqb, false_from_ne_true}
use Rattle.std.proofs.lemmas.Option.{same_Some}
use Rattle.ds_base.specs.declared.names.PageId.{PageId}
use Rattle.ds_model.specs.declared.lock.Name.TheVariants as name
use Rattle.list_structure.specs.Standings.{status_of}
use Rattle.facility.specs.declared.command.Indexes.{Indexes}
use Rattle.facility.specs.States.{Held}
use Rattle.facility.specs.Counting.{given}
use Rattle.lock_manager.specs.Managers.{Book, held_by}
use Rattle.page_format.specs.Fields.{lrsn_of}
use Rattle.page_index.specs.Places.{AreApart}
use Rattle.member_pool.specs.Frames.{find_page, page_of}
use Rattle.member_marks.specs.State.{MarksState}
use Rattle.member_marks.specs.Claims.{has_page}
use Rattle.member_marks.specs.Frames.{frame_in}
use Rattle.member_effects.specs.Kept.{Kept}
use Rattle.member_effects.specs.Changes.{bytes_at}
use Rattle.page_protocol.specs.Page.{put, change}
use Rattle.page_protocol.specs.Moves.{World, Draw, drawn as group_drawn}
use Rattle.page_world.specs.Numbers.{page_at}
use Rattle.page_world.specs.Holdings.{Copy, Holdings, with_facility}
use Rattle.page_world.specs.Tied.{Moved}
use Rattle.page_world.specs.Draws.{MayChange, changed_copy, drawn, content_behind}
use Rattle.page_intents.specs.Numbers.{AreNumbered}
use Rattle.page_intents.specs.Stands.{AreBehind, copy_at, copy_in, copy_of, IsUp, Goes}
use Rattle.page_intents.specs.Frames.{Begins}
use Rattle.page_intents.specs.Draws.{touched_in, new_bytes, drawn_behind}
use Rattle.page_intents.proofs.Heads.{placed_is, one_frame, is_found, found, found_same}

-- ---- what is drawn for
pub record Holds (s : MarksState) (at : ℕ) : Type 0 where
  pub page : PageId
  pub placed : (frame_in s.heads at).page ≡ Some page
  pub claimed : has_page s page ≡ true
  pub filled : (frame_in s.heads at).filled ≡ true

pub record Draws (g : Holdings) (k t : Kept) (is : ℕ → Bool) (indexes : Indexes) (number : ℕ) : Type 0 where
  -- the frames, of which these are changed
  pub member : t.marks.member ≡ k.marks.member
  pub locks : t.marks.locks ≡ k.marks.locks
  pub each : length t.pages ≡ length k.pages
  pub size : length t.marks.heads.frames ≡ length k.marks.heads.frames
  pub page : (q : ℕ) → (frame_in t.marks.heads q).page ≡ (frame_in k.marks.heads q).page
  pub filled : (q : ℕ) → (frame_in t.marks.heads q).filled ≡ (frame_in k.marks.heads q).filled
  pub registered : (q : ℕ) → (frame_in t.marks.heads q).registered ≡ (frame_in k.marks.heads q).registered
  pub changed : (q : ℕ) → is q ≡ true → (frame_in t.marks.heads q).changed ≡ true
  pub marks : (q : ℕ) → is q ≡ false → (frame_in t.marks.heads q).changed ≡ (frame_in k.marks.heads q).changed
  pub bytes : (q : ℕ) → is q ≡ false → bytes_at t.pages q ≡ bytes_at k.pages q
  -- they have pages that the member claims, and show the number
  pub holds : (q : ℕ) → is q ≡ true → Holds k.marks q
  pub tested : (q : ℕ) → is q ≡ true → list_any (λ i. i == q) (given indexes) ≡ true
  pub shows : (q : ℕ) → is q ≡ true → lrsn_of (bytes_at t.pages q) ≡ number
  -- the log
  pub stable : t.marks.log.stable ≡ k.marks.log.stable
  pub last : t.marks.log.last ≡ number
  pub pending : AreBehind (g.stable k.marks.member) (g.written k.marks.member + 1) t.marks.log.pending

-- ---- the frame of a copy
pub record Located (g : Holdings) (k : Kept) (n : ℕ) : Type 0 where
  pub at : ℕ
  pub copy : g.copies k.marks.member n ≡ copy_at k.marks.heads k.pages at
  pub page : (frame_in k.marks.heads at).page ≡ Some (page_at n)

pub located : (g : Holdings) (forced : ℕ → ℕ) (k : Kept) (n : ℕ) → IsUp g forced k → (g.copies k.marks.member n).placed ≡ true → Located g k n
located g forced k n up placed = by (find_page k.marks.heads.frames (page_at n)) refl
  where
    by : (o : Option ℕ) → find_page k.marks.heads.frames (page_at n) ≡ o → Located g k n
    by None e = absurd (both_ways (g.copies k.marks.member n).placed (ap (λ (c : Copy). c.placed) (up.copies n ∙ ap (copy_in k.marks.heads k.pages) e)) placed)
    by (Some q) e = record { at = q; copy = up.copies n ∙ ap (copy_in k.marks.heads k.pages) e; page = is_found k.marks.heads q (page_at n) e }

module _ (w : World) (g : Holdings) (content : ℕ → ℕ → List ℕ) (forced : ℕ → ℕ) (k t : Kept) (is : ℕ → Bool) (indexes : Indexes) (number : ℕ) (b : Begins w g content forced k) (d : Draws g k t is indexes number) where
  -- each of the pages may be changed
  pub may : (n : ℕ) → touched_in g k.marks.member is n ≡ true → MayChange w g k.marks.member n (given indexes)
  may n e =
      let parts = and_parts (g.copies k.marks.member n).placed (is (g.copies k.marks.member n).index) e in
      let it = located g forced k n b.up parts.0 in
      let index : (g.copies k.marks.member n).index ≡ it.at = ap (λ (c : Copy). c.index) it.copy in
      let here : is it.at ≡ true = sym (ap is index) ∙ parts.1 in
      let h = d.holds it.at here in
      let page : h.page ≡ page_at n = same_Some h.page (page_at n) (sym h.placed ∙ it.page) in
      record {
        own = b.up.owns n (sym (ap (has_page k.marks) page) ∙ h.claimed);
        placed = parts.0;
        noted = ap (λ (c : Copy). c.noted) it.copy ∙ or_true (frame_in k.marks.heads it.at).registered (frame_in k.marks.heads it.at).filled h.filled;
        filled = ap (λ (c : Copy). c.filled) it.copy ∙ h.filled;
        tested = d.tested (g.copies k.marks.member n).index parts.1;
        newest = inl b.up.up;
      }
    where
      or_true : (a b : Bool) → b ≡ true → (a || b) ≡ true
      or_true true b e = refl
      or_true false b e = e

  apart_drawn : AreApart page_of t.marks.heads.frames
  apart_drawn p q id x y =
      one_frame k.marks.heads b.up.apart p q id (sym (d.page p) ∙ sym (placed_is t.marks.heads.frames p) ∙ x) (sym (d.page q) ∙ sym (placed_is t.marks.heads.frames q) ∙ y)

  -- the copies that are left
  abbrev Becomes : Copy → Copy → Type 0
  Becomes x c = x ≡ (if c.placed && is c.index then changed_copy c x.bytes else c)

  pub becomes_at : (q : ℕ) → Becomes (copy_at t.marks.heads t.pages q) (copy_at k.marks.heads k.pages q)
  becomes_at q = by (is q) refl
    where
      by : (x : Bool) → is q ≡ x → copy_at t.marks.heads t.pages q ≡ (if is q then changed_copy (copy_at k.marks.heads k.pages q) (bytes_at t.pages q) else copy_at k.marks.heads k.pages q)
      by true e =
          let filled = d.filled q in
          let registered = d.registered q in
          let marked = d.changed q e in
          let same : copy_at t.marks.heads t.pages q ≡ changed_copy (copy_at k.marks.heads k.pages q) (bytes_at t.pages q) =
          (λ i. record { placed = true; index = q; filled = filled i; marked = marked i; noted = registered i || filled i; bytes = bytes_at t.pages q }) in
          same ∙ sym (cond-true (is q) (changed_copy (copy_at k.marks.heads k.pages q) (bytes_at t.pages q)) (copy_at k.marks.heads k.pages q) e)
      by false e =
          let filled = d.filled q in
          let registered = d.registered q in
          let marked = d.marks q e in
          let bytes = d.bytes q e in
          let same : copy_at t.marks.heads t.pages q ≡ copy_at k.marks.heads k.pages q =
          (λ i. record { placed = true; index = q; filled = filled i; marked = marked i; noted = registered i || filled i; bytes = bytes i }) in
          same ∙ sym (cond-false (is q) (changed_copy (copy_at k.marks.heads k.pages q) (bytes_at t.pages q)) (copy_at k.marks.heads k.pages q) e)

  becomes_in : (o : Option ℕ) → Becomes (copy_in t.marks.heads t.pages o) (copy_in k.marks.heads k.pages o)
  becomes_in None = refl
  becomes_in (Some q) = becomes_at q

  found_drawn : (n : ℕ) → find_page t.marks.heads.frames (page_at n) ≡ find_page k.marks.heads.frames (page_at n)
  found_drawn n = found_same k.marks.heads t.marks.heads (page_at n) apart_drawn (λ q e. sym (d.page q) ∙ e) (λ q e. d.page q ∙ e)

  copies_drawn : (n : ℕ) → Becomes (copy_of t.marks.heads t.pages n) (g.copies k.marks.member n)
  copies_drawn n =
      subst (λ c. Becomes (copy_of t.marks.heads t.pages n) c) (sym (b.up.copies n))
      (subst (λ o. Becomes (copy_in t.marks.heads t.pages o) (copy_of k.marks.heads k.pages n)) (sym (found_drawn n)) (becomes_in (find_page k.marks.heads.frames (page_at n))))

  -- the group that is left
  each_copy : (p n : ℕ) → (if (p == k.marks.member) && touched_in g k.marks.member is n then changed_copy (g.copies p n) (new_bytes t n) else g.copies p n) ≡ (if p == k.marks.member then copy_of t.marks.heads t.pages n else g.copies p n)
  each_copy p n = elim (cases_eq p k.marks.member) [
    | inl e ↦ subst (λ z. (if (z == k.marks.member) && touched_in g k.marks.member is n then changed_copy (g.copies z n) (new_bytes t n) else g.copies z n) ≡ (if z == k.marks.member then copy_of t.marks.heads t.pages n else g.copies z n)) (sym e)
        (ap (λ x. if x && touched_in g k.marks.member is n then changed_copy (g.copies k.marks.member n) (new_bytes t n) else g.copies k.marks.member n) (eq-eqb k.marks.member k.marks.member refl)
        ∙ sym (copies_drawn n) ∙ sym (cond-true (k.marks.member == k.marks.member) (copy_of t.marks.heads t.pages n) (g.copies k.marks.member n) (eq-eqb k.marks.member k.marks.member refl)))
    | inr ne ↦ cond-false ((p == k.marks.member) && touched_in g k.marks.member is n) (changed_copy (g.copies p n) (new_bytes t n)) (g.copies p n)
        (false_from_ne_true ((p == k.marks.member) && touched_in g k.marks.member is n) (λ x. ne (eqb-true p k.marks.member (and_parts (p == k.marks.member) (touched_in g k.marks.member is n) x).0)))
        ∙ sym (cond-false (p == k.marks.member) (copy_of t.marks.heads t.pages n) (g.copies p n) (ne_eqb p k.marks.member ne))
  ]

  left_is : (v : Held) → with_facility (drawn g k.marks.member (touched_in g k.marks.member is) (new_bytes t)) v ≡ drawn_behind g v k.marks.member t
  left_is v = λ i. record g { facility = v; written = put g.written k.marks.member (g.written k.marks.member + 1); copies = λ p n. each_copy p n i }

  -- the numbers: a page that is touched shows the one that was drawn
  shown_new : (n : ℕ) → touched_in g k.marks.member is n ≡ true → lrsn_of (new_bytes t n) ≡ number
  shown_new n e =
      let parts = and_parts (g.copies k.marks.member n).placed (is (g.copies k.marks.member n).index) e in
      let it = located g forced k n b.up parts.0 in
      let index : (g.copies k.marks.member n).index ≡ it.at = ap (λ (c : Copy). c.index) it.copy in
      let here : is it.at ≡ true = sym (ap is index) ∙ parts.1 in
      let at : find_page t.marks.heads.frames (page_at n) ≡ Some it.at = found_drawn n ∙ found_here it in
      ap (λ o. lrsn_of (copy_in t.marks.heads t.pages o).bytes) at ∙ d.shows it.at here
    where
      found_here : (it : Located g k n) → find_page k.marks.heads.frames (page_at n) ≡ Some it.at
      found_here it = found k.marks.heads it.at (page_at n) b.up.apart it.page

  -- the world behind the draw
  abbrev behind_draw : World
  behind_draw = record {
    down = false;
    group = group_drawn w.group k.marks.member;
    pages = λ n. if touched_in g k.marks.member is n then change (w.pages n) k.marks.member (w.group.written k.marks.member) (w.group.counter + 1) else w.pages n;
  }

  abbrev now : ℕ → ℕ → List ℕ
  now = content_behind w (touched_in g k.marks.member is) (new_bytes t) content

  shown_as : (n : ℕ) (x : Bool) → (x ≡ true → lrsn_of (new_bytes t n) ≡ w.group.counter + 1) → (i : ℕ) → i < (if x then change (w.pages n) k.marks.member (w.group.written k.marks.member) (w.group.counter + 1) else w.pages n).last
      → lrsn_of (if x && (i + 1 == (w.pages n).last + 1) then new_bytes t n else content n (i + 1)) ≡ (if x then change (w.pages n) k.marks.member (w.group.written k.marks.member) (w.group.counter + 1) else w.pages n).lrsn i
  shown_as n false new i l = b.numbered.shown n i l
  shown_as n true new i l = elim (cases_eq i (w.pages n).last) [
    | inl e ↦ ap lrsn_of (cond-true (i + 1 == (w.pages n).last + 1) (new_bytes t n) (content n (i + 1)) (eq-eqb (i + 1) ((w.pages n).last + 1) (ap (λ z. z + 1) e))) ∙ new refl
        ∙ sym (cond-true (i == (w.pages n).last) (w.group.counter + 1) ((w.pages n).lrsn i) (eq-eqb i (w.pages n).last e))
    | inr ne ↦ ap lrsn_of (cond-false (i + 1 == (w.pages n).last + 1) (new_bytes t n) (content n (i + 1)) (ne_eqb (i + 1) ((w.pages n).last + 1) (λ z. ne (omega (arith, z)))))
        ∙ b.numbered.shown n i (omega (arith, l, ne)) ∙ sym (cond-false (i == (w.pages n).last) (w.group.counter + 1) ((w.pages n).lrsn i) (ne_eqb i (w.pages n).last ne))
  ]

  stable_as : (n : ℕ) (x : Bool) (i : ℕ) → (let p = if x then change (w.pages n) k.marks.member (w.group.written k.marks.member) (w.group.counter + 1) else w.pages n in
      i < p.last → p.lrsn i ≤ forced (p.author i) → p.place i < w.group.stable (p.author i))
  stable_as n false i l le = b.numbered.stable n i l le
  stable_as n true i l le = elim (cases_eq i (w.pages n).last) [
    | inl e ↦ absurd (too_great e)
    | inr ne ↦ subst (λ a. (if i == (w.pages n).last then w.group.written k.marks.member else (w.pages n).place i) < w.group.stable a) (sym (old_author ne))
        (subst (λ a. a < w.group.stable ((w.pages n).author i)) (sym (cond-false (i == (w.pages n).last) (w.group.written k.marks.member) ((w.pages n).place i) (ne_eqb i (w.pages n).last ne)))
        (b.numbered.stable n i (omega (arith, l, ne)) (subst (λ z. z ≤ forced ((w.pages n).author i)) (cond-false (i == (w.pages n).last) (w.group.counter + 1) ((w.pages n).lrsn i) (ne_eqb i (w.pages n).last ne))
        (subst (λ a. (if i == (w.pages n).last then w.group.counter + 1 else (w.pages n).lrsn i) ≤ forced a) (old_author ne) le))))
  ]
    where
      old_author : i ≢ (w.pages n).last → (if i == (w.pages n).last then k.marks.member else (w.pages n).author i) ≡ (w.pages n).author i
      old_author ne = cond-false (i == (w.pages n).last) k.marks.member ((w.pages n).author i) (ne_eqb i (w.pages n).last ne)

      too_great : i ≡ (w.pages n).last → ⊥
      too_great e =
          let drawn = b.numbered.drawn ((if i == (w.pages n).last then k.marks.member else (w.pages n).author i)) in
          let number = cond-true (i == (w.pages n).last) (w.group.counter + 1) ((w.pages n).lrsn i) (eq-eqb i (w.pages n).last e) in
          let limit = subst (λ z. z ≤ forced (if i == (w.pages n).last then k.marks.member else (w.pages n).author i)) number le in
          omega (arith, limit, drawn)

  numbered_drawn : number ≡ w.group.counter + 1 → AreNumbered behind_draw now forced
  numbered_drawn e = record {
    shown = λ n i l. shown_as n (touched_in g k.marks.member is n) (λ x. shown_new n x ∙ e) i l;
    stable = λ n i l le. stable_as n (touched_in g k.marks.member is n) i l le;
    drawn = λ j. (let d = b.numbered.drawn j in omega (arith, d));
  }

  -- the member is still up
  still_up : (v : Held) → v.lists.members ≡ g.facility.lists.members → v.lists.statuses ≡ g.facility.lists.statuses → v.counter ≡ number → IsUp (drawn_behind g v k.marks.member t) forced t
  still_up v members statuses counter = record {
    least = subst (λ z. 1 ≤ z) (sym d.member) b.up.least;
    among = subst (λ z. z ≤ v.lists.members) (sym d.member) (subst (λ z. k.marks.member ≤ z) (sym members) b.up.among);
    up = ap (λ z. status_of z t.marks.member) statuses ∙ ap (status_of g.facility.lists.statuses) d.member ∙ b.up.up;
    log = ap forced d.member ∙ b.up.log ∙ sym d.stable;
    last = (let e = d.last in omega (arith, e, counter));
    pending = subst (λ z. AreBehind (g.stable z) (put g.written k.marks.member (g.written k.marks.member + 1) z) t.marks.log.pending) (sym d.member)
        (subst (λ z. AreBehind (g.stable k.marks.member) z t.marks.log.pending) (sym (cond-true (k.marks.member == k.marks.member) (g.written k.marks.member + 1) (g.written k.marks.member) (eq-eqb k.marks.member k.marks.member refl))) d.pending);
    apart = apart_drawn;
    each = d.each ∙ b.up.each ∙ sym d.size;
    copies = λ j. cond-true (t.marks.member == k.marks.member) (copy_of t.marks.heads t.pages j) (g.copies t.marks.member j) (eq-eqb t.marks.member k.marks.member d.member);
    owns = λ j e. b.up.owns j (sym (claims j) ∙ e) ∙ ap Some (sym d.member);
    no_more = λ j e x. b.up.no_more j (sym (claims j) ∙ e) (x ∙ ap Some d.member);
  }
    where
      claims : (j : ℕ) → has_page t.marks (page_at j) ≡ has_page k.marks (page_at j)
      claims j = ap (λ (z : Book). is_some (held_by z 0 (name.Page (page_at j)))) d.locks

  -- so the draw is a move
  pub draw_goes : (v : Held) → v.lists.members ≡ g.facility.lists.members → v.lists.statuses ≡ g.facility.lists.statuses → v.counter ≡ number → number ≡ g.facility.counter + 1
      → Moved w (Draw k.marks.member (touched_in g k.marks.member is) ∷ []) (with_facility (drawn g k.marks.member (touched_in g k.marks.member is) (new_bytes t)) v) now → Goes w now forced (drawn_behind g v k.marks.member t) k.marks t
  draw_goes v members statuses counter e moved =
      let so = subst (λ z. Moved w (Draw k.marks.member (touched_in g k.marks.member is) ∷ []) z now) (left_is v) moved in
      record {
        moves = Draw k.marks.member (touched_in g k.marks.member is) ∷ [];
        moved = so;
        plain = (refl, tt);
        numbered = subst (λ z. AreNumbered z now forced) (sym (so.run.2 ∙ so.run.1.2)) (numbered_drawn (e ∙ ap (λ z. z + 1) (sym b.tied.counter)));
        same = d.member;
        stands = still_up v members statuses counter;
      }
