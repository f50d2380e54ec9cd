-- A compensation changes the page in hand.
use Rattle.std.proofs.Common.{◌≡◌, ◌≢◌, ℕ, ◌+◌, ◌<◌, ◌≤◌, refl, sym, ap, subst, ◌∙◌, Bool, true, false, inl, inr, List, [], ◌∷◌, Option, Some, None, arith}
use Rattle.std.specs.Prelude.{◌⊎◌, ◌==◌, ◌&&◌, ◌||◌, if◌then◌else◌}
use Rattle.std.specs.List.{list_any}
use Rattle.std.proofs.lemmas.Bool.{and_parts, cases_eq, cond-false, cond-true, eq-eqb, eqb-true, false_from_ne_true, ne_eqb}
use Rattle.page_format.specs.Fields.{lrsn_of}
use Rattle.list_structure.specs.declared.standing.MemberStatus.TheVariants.{Up}
use Rattle.list_structure.specs.Standings.{status_of}
use Rattle.facility.specs.declared.command.Indexes.{Indexes}
use Rattle.facility.specs.declared.command.Reply.TheVariants as reply
use Rattle.facility.specs.Counting.{counter_after, first_stale, given, drawn as drawn_reply}
use Rattle.facility.specs.States.{Held as Facility}
use Rattle.page_protocol.specs.Page.{change, put}
use Rattle.page_protocol.specs.Moves.{World, Draw, drawn as group_drawn, IsWritten}
use Rattle.page_world.specs.Draws.{MayChange, UndoesMoves, changed_copy, content_behind, drawn}
use Rattle.page_world.specs.Holdings.{Copy, with_facility}
use Rattle.page_world.specs.Numbers.{page_number}
use Rattle.page_world.specs.Tied.{Moved}
use Rattle.page_intents.specs.Numbers.{AreNumbered}
use Rattle.page_intents.specs.Stands.{AreBehind}
use Rattle.page_restarts.specs.Stands.{IsRestarting, copy_of, hand_copy}
use Rattle.page_restarts.specs.Undoes.{UndoGoes, undone_behind}
use Rattle.page_restarts.proofs.Standing.{copy_here, copy_there, has_copy, is_live_restarting}

or_second : (a b : Bool) → b ≡ true → (a || b) ≡ true
or_second true b e = refl
or_second false b e = e

undo_number : (number counter : ℕ) (o : Option ℕ) → reply.Drawn number ≡ drawn_reply o counter → (number ≡ counter + 1) × (counter_after o counter ≡ counter + 1)
undo_number number counter None e = (cc e, refl)
undo_number number counter (Some i) e = absurd (cc e)

-- ---- the numbers behind a draw
module _ (w : World) (content : ℕ → ℕ → List ℕ) (forced : ℕ → ℕ) (m number : ℕ) (touched : ℕ → Bool) (bytes : ℕ → List ℕ) (t : AreNumbered w content forced) (is : number ≡ w.group.counter + 1) (shows : (n : ℕ) → touched n ≡ true → lrsn_of (bytes n) ≡ number) where
  abbrev behind_draw : World
  behind_draw = record { down = false; group = group_drawn w.group m; pages = λ n. if touched n then change (w.pages n) m (w.group.written m) (w.group.counter + 1) else w.pages n }

  shown_as : (n : ℕ) (x : Bool) → (x ≡ true → lrsn_of (bytes n) ≡ w.group.counter + 1) → (i : ℕ) → i < (if x then change (w.pages n) m (w.group.written m) (w.group.counter + 1) else w.pages n).last
      → lrsn_of (if x && (i + 1 == (w.pages n).last + 1) then bytes n else content n (i + 1)) ≡ (if x then change (w.pages n) m (w.group.written m) (w.group.counter + 1) else w.pages n).lrsn i
  shown_as n false new i l = t.shown n i l
  shown_as n true new i l = elim (cases_eq i (w.pages n).last) [
    | inl e ↦ ap lrsn_of (cond-true (i + 1 == (w.pages n).last + 1) (bytes n) (content n (i + 1)) (eq-eqb (i + 1) ((w.pages n).last + 1) (ap (λ z. z + 1) e))) ∙ new refl
        ∙ sym (cond-true (i == (w.pages n).last) (w.group.counter + 1) ((w.pages n).lrsn i) (eq-eqb i (w.pages n).last e))
    | inr ne ↦ ap lrsn_of (cond-false (i + 1 == (w.pages n).last + 1) (bytes n) (content n (i + 1)) (ne_eqb (i + 1) ((w.pages n).last + 1) (λ z. ne (omega (arith, z)))))
        ∙ t.shown n i (omega (arith, l, ne)) ∙ sym (cond-false (i == (w.pages n).last) (w.group.counter + 1) ((w.pages n).lrsn i) (ne_eqb i (w.pages n).last ne))
  ]

  stable_as : (n : ℕ) (x : Bool) (i : ℕ) → (let p = if x then change (w.pages n) m (w.group.written m) (w.group.counter + 1) else w.pages n in
      i < p.last → p.lrsn i ≤ forced (p.author i) → p.place i < w.group.stable (p.author i))
  stable_as n false i l le = t.stable n i l le
  stable_as n true i l le = elim (cases_eq i (w.pages n).last) [
    | inl e ↦ absurd (too_great e)
    | inr ne ↦ subst (λ a. (if i == (w.pages n).last then w.group.written m else (w.pages n).place i) < w.group.stable a) (sym (old_author ne))
        (subst (λ a. a < w.group.stable ((w.pages n).author i)) (sym (cond-false (i == (w.pages n).last) (w.group.written m) ((w.pages n).place i) (ne_eqb i (w.pages n).last ne)))
        (t.stable n i (omega (arith, l, ne)) (subst (λ z. z ≤ forced ((w.pages n).author i)) (cond-false (i == (w.pages n).last) (w.group.counter + 1) ((w.pages n).lrsn i) (ne_eqb i (w.pages n).last ne))
        (subst (λ a. (if i == (w.pages n).last then w.group.counter + 1 else (w.pages n).lrsn i) ≤ forced a) (old_author ne) le))))
  ]
    where
      old_author : i ≢ (w.pages n).last → (if i == (w.pages n).last then m else (w.pages n).author i) ≡ (w.pages n).author i
      old_author ne = cond-false (i == (w.pages n).last) m ((w.pages n).author i) (ne_eqb i (w.pages n).last ne)

      too_great : i ≡ (w.pages n).last → ⊥
      too_great e =
          let drawn = t.drawn ((if i == (w.pages n).last then m else (w.pages n).author i)) in
          let number = cond-true (i == (w.pages n).last) (w.group.counter + 1) ((w.pages n).lrsn i) (eq-eqb i (w.pages n).last e) in
          let limit = subst (λ z. z ≤ forced (if i == (w.pages n).last then m else (w.pages n).author i)) number le in
          omega (arith, limit, drawn)

  numbered_drawn : AreNumbered behind_draw (content_behind w touched bytes content) forced
  numbered_drawn = record {
    shown = λ n i l. shown_as n (touched n) (λ x. shows n x ∙ is) i l;
    stable = λ n i l le. stable_as n (touched n) i l le;
    drawn = λ j. (let d = t.drawn j in omega (arith, d));
  }

-- ---- the compensation
pub undo_goes : UndoesMoves → UndoGoes
undo_goes law w g content forced h t p number v b has filled own newest r u = record {
  moves = Draw m touched ∷ [];
  moved = moved;
  numbered = subst (λ z. AreNumbered z now forced) (sym (moved.run.2 ∙ moved.run.1.2)) (numbered_drawn w content forced m number touched (λ j. t.page) b.numbered (drawn_is.0 ∙ ap (λ z. z + 1) (sym b.tied.counter)) (λ j e. u.shows));
  casts = λ k. ap (λ (z : World). (z.pages k).castout) (moved.run.2 ∙ moved.run.1.2) ∙ changed_castout k (touched k);
  same = u.member;
  stands = stands;
}
  where
    m : ℕ
    m = h.marks.member

    n : ℕ
    n = page_number p

    touched : ℕ → Bool
    touched = λ j. j == page_number p

    now : ℕ → ℕ → List ℕ
    now = content_behind w touched (λ j. t.page) content

    changed_castout : (k : ℕ) (x : Bool) → (if x then change (w.pages k) m (w.group.written m) (w.group.counter + 1) else w.pages k).castout ≡ (w.pages k).castout
    changed_castout k true = refl
    changed_castout k false = refl

    indexes : Indexes
    indexes = record { count = 1; at = 0 ∷ 0 ∷ 0 ∷ [] }

    drawn_is : (number ≡ g.facility.counter + 1) × (counter_after (first_stale g.facility.directory h.marks.member (given indexes)) g.facility.counter ≡ g.facility.counter + 1)
    drawn_is = undo_number number g.facility.counter (first_stale g.facility.directory h.marks.member (given indexes)) r.0

    copy : g.copies h.marks.member (page_number p) ≡ hand_copy h.marks.hand h.page
    copy = has_copy g forced h p b.restarts has

    may_here : MayChange w g h.marks.member (page_number p) (given indexes)
    may_here = record {
      own = own;
      placed = ap (λ (c : Copy). c.placed) copy;
      noted = ap (λ (c : Copy). c.noted) copy ∙ or_second h.marks.hand.registered h.marks.hand.filled filled;
      filled = ap (λ (c : Copy). c.filled) copy ∙ filled;
      tested = ap (λ (c : Copy). list_any (λ i. i == c.index) (given indexes)) copy;
      newest = newer newest;
    }
      where
        newer : (h.marks.hand.changed ≡ true) ⊎ IsWritten w.group (w.pages (page_number p)) h.marks.member → (status_of g.facility.lists.statuses h.marks.member ≡ Up) ⊎ ((g.copies h.marks.member (page_number p)).marked ≡ true) ⊎ IsWritten w.group (w.pages (page_number p)) h.marks.member
        newer (inl e) = inr (inl (ap (λ (c : Copy). c.marked) copy ∙ e))
        newer (inr e) = inr (inr e)

    may : (j : ℕ) → touched j ≡ true → MayChange w g h.marks.member j (given indexes)
    may j e = subst (λ z. MayChange w g h.marks.member z (given indexes)) (sym (eqb-true j (page_number p) e)) may_here

    -- the group that is left
    own_copy : (j : ℕ) → (j ≡ page_number p) ⊎ (j ≢ page_number p) → (if touched j then changed_copy (g.copies h.marks.member j) t.page else g.copies h.marks.member j) ≡ copy_of t j
    own_copy j (inl e) =
        cond-true (touched j) (changed_copy (g.copies h.marks.member j) t.page) (g.copies h.marks.member j) (eq-eqb j (page_number p) e)
        ∙ ap (λ (c : Copy). changed_copy c t.page) (ap (g.copies h.marks.member) e ∙ copy) ∙ became ∙ sym (ap (copy_of t) e ∙ copy_here t p u.page)
      where
        became : changed_copy (hand_copy h.marks.hand h.page) t.page ≡ hand_copy t.marks.hand t.page
        became =
            let f = filled ∙ sym u.filled in
            let c = sym u.changed in
            let noted : (h.marks.hand.registered || h.marks.hand.filled) ≡ (t.marks.hand.registered || t.marks.hand.filled) = or_second h.marks.hand.registered h.marks.hand.filled filled ∙ sym (or_second t.marks.hand.registered t.marks.hand.filled u.filled) in
            λ i. record { placed = true; index = 0; filled = f i; marked = c i; noted = noted i; bytes = t.page }
    own_copy j (inr ne) =
        cond-false (touched j) (changed_copy (g.copies h.marks.member j) t.page) (g.copies h.marks.member j) (ne_eqb j (page_number p) ne)
        ∙ b.restarts.copies j ∙ copy_there h p j has ne ∙ sym (copy_there t p j u.page ne)

    each_copy : (k j : ℕ) → (if (k == m) && touched j then changed_copy (g.copies k j) t.page else g.copies k j) ≡ (if k == m then copy_of t j else g.copies k j)
    each_copy k j = elim (cases_eq k m) [
      | inl e ↦ subst (λ z. (if (z == m) && touched j then changed_copy (g.copies z j) t.page else g.copies z j) ≡ (if z == m then copy_of t j else g.copies z j)) (sym e)
          (ap (λ x. if x && touched j then changed_copy (g.copies m j) t.page else g.copies m j) (eq-eqb m m refl) ∙ own_copy j (cases_eq j (page_number p)) ∙ sym (cond-true (m == m) (copy_of t j) (g.copies m j) (eq-eqb m m refl)))
      | inr ne ↦ cond-false ((k == m) && touched j) (changed_copy (g.copies k j) t.page) (g.copies k j) (false_from_ne_true ((k == m) && touched j) (λ x. ne (eqb-true k m (and_parts (k == m) (touched j) x).0)))
          ∙ sym (cond-false (k == m) (copy_of t j) (g.copies k j) (ne_eqb k m ne))
    ]

    left_is : with_facility (drawn g m touched (λ j. t.page)) v ≡ undone_behind g v m t
    left_is = λ i. record g { facility = v; written = put g.written m (g.written m + 1); copies = λ k j. each_copy k j i }

    moved : Moved w (Draw m touched ∷ []) (undone_behind g v m t) now
    moved = subst (λ z. Moved w (Draw m touched ∷ []) z now) left_is (law w g content m number touched (λ j. t.page) indexes v b.good b.tied (is_live_restarting g forced h b.restarts) may r)

    stands : IsRestarting (undone_behind g v m t) forced t
    stands =
        let members = ap (λ (z : Facility). z.lists.members) r.1 in
        let statuses = ap (λ (z : Facility). z.lists.statuses) r.1 in
        let counter : v.counter ≡ number = ap (λ (z : Facility). z.counter) r.1 ∙ drawn_is.1 ∙ sym drawn_is.0 in
        record {
          least = subst (λ z. 1 ≤ z) (sym u.member) b.restarts.least;
          among = subst (λ z. z ≤ v.lists.members) (sym u.member) (subst (λ z. m ≤ z) (sym members) b.restarts.among);
          restarts = ap (λ z. status_of z t.marks.member) statuses ∙ ap (status_of g.facility.lists.statuses) u.member ∙ b.restarts.restarts;
          log = ap forced u.member ∙ b.restarts.log ∙ sym u.stable;
          last = (let e = u.log in omega (arith, e, counter));
          pending = subst (λ z. AreBehind (g.stable z) (put g.written m (g.written m + 1) z) t.marks.log.pending) (sym u.member)
              (subst (λ z. AreBehind (g.stable m) z t.marks.log.pending) (sym (cond-true (m == m) (g.written m + 1) (g.written m) (eq-eqb m m refl))) u.pending);
          full = λ e. u.filled;
          shows = λ e. u.shows ∙ sym u.last;
          copies = λ j. cond-true (t.marks.member == m) (copy_of t j) (g.copies t.marks.member j) (eq-eqb t.marks.member m u.member);
        }
