-- Which pages a draw has changed: those whose copies of its member show its number.
use Rattle.std.proofs.Common.{◌≡◌, ℕ, zero, suc, ◌+◌, ◌<◌, ◌≤◌, refl, sym, ap, subst, ◌∙◌, Bool, true, false, cond, inl, inr, List, Some, arith}
use Rattle.std.specs.Prelude.{◌==◌, ◌&&◌, nat_lt}
use Rattle.std.proofs.lemmas.Bool.{and_from, and_parts, cases_lt, cond-true, eq-eqb, eqb-true, false_from_ne_true, lt-ltb, le-ltb}
use Rattle.page_format.specs.Fields.{lrsn_of}
use Rattle.list_structure.specs.Standings.{status_of}
use Rattle.list_structure.specs.declared.standing.MemberStatus.TheVariants as standing
use Rattle.page_protocol.specs.Page.{Page, Group, Up, change, put}
use Rattle.page_protocol.specs.Moves.{World}
use Rattle.page_protocol.specs.Coherent.{Coherent}
use Rattle.page_protocol.specs.Always.{Good, Stands}
use Rattle.page_world.specs.Holdings.{Holdings, as_status}
use Rattle.page_world.specs.Tied.{Tied}
use Rattle.page_intents.proofs.Chains.{Chain, chain_of}
use Rattle.page_events.specs.Given.{AreNumbered}
use Rattle.told_pages.proofs.Moves.{Once}
use Rattle.told_pages.proofs.Runs.{forced_of}

coherent_in : (b : Bool) (g : Group) (p : Page) → b ≡ false → Stands b g p → Coherent g p
coherent_in b g p e s = subst (λ z. Stands z g p) e s

put_at : {A : Type 0} → (f : ℕ → A) (j i : ℕ) (x : A) → j ≡ i → put f j x i ≡ x
put_at f j i x e = cond-true (i == j) x (f i) (eq-eqb i j (sym e))

module _ (w v : World) (left : Holdings) (content versions : ℕ → ℕ → List ℕ) (forced force : ℕ → ℕ) (m : ℕ) (set : ℕ → ℕ) (o : Once false set w v) (good : Good w) (end : Good v) (tied : Tied v left versions)
    (before : AreNumbered w content forced) (after : AreNumbered v versions force) (kept : (n i : ℕ) → i ≤ (w.pages n).last → versions n i ≡ content n i) (zeros : (n : ℕ) → lrsn_of (content n 0) ≡ 0)
    (member : m ≡ o.draws.member) (least : 1 ≤ m) (among : m ≤ left.facility.lists.members) (up : status_of left.facility.lists.statuses m ≡ standing.Up) where
  abbrev held : ℕ → Page
  held n = o.before.pages n

  abbrev drew : ℕ → Page
  drew n = change (held n) o.draws.member (o.before.group.written o.draws.member) (o.before.group.counter + 1)

  drawn_chain : (n : ℕ) (b : Bool) → o.draws.touched n ≡ b → chain_of (v.pages n) ≡ chain_of (cond b (drew n) (held n))
  drawn_chain n b e = o.from.chains n ∙ ap (λ (z : World). chain_of (z.pages n)) o.draws.step.2 ∙ ap (λ z. chain_of (cond z (drew n) (held n))) e

  coherent : (n : ℕ) → Coherent v.group (v.pages n)
  coherent n = coherent_in v.down v.group (v.pages n) tied.running (end.stands n)

  first : (n : ℕ) → (held n).last ≡ (w.pages n).last
  first n = ap (λ (c : Chain). c.last) (o.up_to.chains n)

  -- a page that is changed
  pub record IsNew (n : ℕ) : Type 0 where
    pub last : (v.pages n).last ≡ (w.pages n).last + 1
    pub marked : (left.copies m n).marked ≡ true
    pub bytes : (left.copies m n).bytes ≡ versions n ((w.pages n).last + 1)
    pub shown : lrsn_of (versions n ((w.pages n).last + 1)) ≡ w.group.counter + 1

  -- its change is the last one
  record LastIs (n : ℕ) : Type 0 where
    pub last : (v.pages n).last ≡ (w.pages n).last + 1
    pub author : (v.pages n).author (w.pages n).last ≡ m
    pub place : (v.pages n).place (w.pages n).last ≡ w.group.written m
    pub lrsn : (v.pages n).lrsn (w.pages n).last ≡ w.group.counter + 1

  last_is : (n : ℕ) → o.draws.touched n ≡ true → LastIs n
  last_is n e =
      let c = drawn_chain n true e in
      let i = (w.pages n).last in
      record {
        last = ap (λ (z : Chain). z.last) c ∙ ap (λ z. z + 1) (first n);
        author = ap (λ (z : Chain). z.author i) c ∙ put_at (held n).author (held n).last i o.draws.member (first n) ∙ sym member;
        place = ap (λ (z : Chain). z.place i) c ∙ put_at (held n).place (held n).last i (o.before.group.written o.draws.member) (first n) ∙ ap o.before.group.written (sym member) ∙ o.up_to.written m;
        lrsn = ap (λ (z : Chain). z.lrsn i) c ∙ put_at (held n).lrsn (held n).last i (o.before.group.counter + 1) (first n) ∙ ap (λ z. z + 1) o.up_to.counter;
      }

  stable_is : v.group.stable m ≤ w.group.written m
  stable_is =
      let one = o.up_to.stable refl m in
      let two = o.from.stable refl m in
      let mid = ap (λ (z : World). z.group.stable m) o.draws.step.2 in
      let low = forced_of w good m in
      omega (arith, one, two, mid, low)

  not_shared : (n : ℕ) → LastIs n → (v.pages n).shared ≤ (w.pages n).last
  not_shared n l = elim (cases_lt (w.pages n).last (v.pages n).shared) [
    | inl lt ↦ absurd (let there = subst (λ z. (v.pages n).place (w.pages n).last < v.group.stable z) l.author ((coherent n).stable (w.pages n).last lt) in let at = l.place in let low = stable_is in omega (arith, there, at, low))
    | inr le ↦ le
  ]

  pub is_new : (n : ℕ) → o.draws.touched n ≡ true → IsNew n
  is_new n e =
      let l = last_is n e in
      let coh = coherent n in
      let low = not_shared n l in
      let last = l.last in
      let in_it : (w.pages n).last < (v.pages n).last = omega (arith, last) in
      let owner = coh.own (w.pages n).last low in_it ∙ ap Some l.author in
      let is_up : v.group.status m ≡ Up = tied.status m least among ∙ ap as_status up in
      let marked = coh.newest m owner (omega (arith, low, last)) is_up in
      let version = coh.marked_last m marked ∙ last in
      record {
        last = last;
        marked = (tied.pages n).marked m ∙ marked;
        bytes = (tied.pages n).same m (coh.marked_filled m marked) ∙ ap (versions n) version;
        shown = after.shown n (w.pages n).last in_it ∙ l.lrsn;
      }

  -- one that isn't has no copy that is changed and shows the number
  low_number : (n : ℕ) → lrsn_of (content n (w.pages n).last) ≤ w.group.counter
  low_number n = by (w.pages n).last refl
    where
      more : (j : ℕ) → j + 1 ≡ suc j
      more j = omega arith

      by : (i : ℕ) → (w.pages n).last ≡ i → lrsn_of (content n i) ≤ w.group.counter
      by zero e = let none = zeros n in omega (arith, none)
      by (suc j) e =
          let in_it : j < (w.pages n).last = omega (arith, e) in
          let shown = subst (λ z. lrsn_of (content n z) ≡ (w.pages n).lrsn j) (more j) (before.shown n j in_it) in
          let drawn = (good.numbered n).drawn j in_it in
          omega (arith, shown, drawn)

  not_new : (n : ℕ) → o.draws.touched n ≡ false → ((left.copies m n).marked && (lrsn_of (left.copies m n).bytes == w.group.counter + 1)) ≡ true → ⊥
  not_new n e shows =
      let parts = and_parts (left.copies m n).marked (lrsn_of (left.copies m n).bytes == w.group.counter + 1) shows in
      let coh = coherent n in
      let last : (v.pages n).last ≡ (w.pages n).last = ap (λ (z : Chain). z.last) (drawn_chain n false e) ∙ first n in
      let marked = sym ((tied.pages n).marked m) ∙ parts.0 in
      let version = coh.marked_last m marked ∙ last in
      let bytes = (tied.pages n).same m (coh.marked_filled m marked) ∙ ap (versions n) version ∙ kept n (w.pages n).last (omega arith) in
      let number = ap lrsn_of (sym bytes) ∙ eqb-true (lrsn_of (left.copies m n).bytes) (w.group.counter + 1) parts.1 in
      let low = low_number n in
      omega (arith, number, low)

  by_touch : (n : ℕ) (b : Bool) → o.draws.touched n ≡ b → nat_lt (w.pages n).last (v.pages n).last ≡ ((left.copies m n).marked && (lrsn_of (left.copies m n).bytes == w.group.counter + 1))
  by_touch n true e =
      let x = is_new n e in
      let last = x.last in
      lt-ltb (w.pages n).last (v.pages n).last (omega (arith, last))
      ∙ sym (and_from (left.copies m n).marked (lrsn_of (left.copies m n).bytes == w.group.counter + 1) x.marked (eq-eqb (lrsn_of (left.copies m n).bytes) (w.group.counter + 1) (ap lrsn_of x.bytes ∙ x.shown)))
  by_touch n false e =
      let last : (v.pages n).last ≡ (w.pages n).last = ap (λ (z : Chain). z.last) (drawn_chain n false e) ∙ first n in
      le-ltb (w.pages n).last (v.pages n).last (omega (arith, last)) ∙ sym (false_from_ne_true ((left.copies m n).marked && (lrsn_of (left.copies m n).bytes == w.group.counter + 1)) (not_new n e))

  pub last_shows : (n : ℕ) → nat_lt (w.pages n).last (v.pages n).last ≡ ((left.copies m n).marked && (lrsn_of (left.copies m n).bytes == w.group.counter + 1))
  last_shows n = by_touch n (o.draws.touched n) refl

  -- so the bytes of such a copy are those of the new version
  pub new_bytes : (n : ℕ) → ((left.copies m n).marked && (lrsn_of (left.copies m n).bytes == w.group.counter + 1)) ≡ true → (left.copies m n).bytes ≡ versions n ((w.pages n).last + 1)
  new_bytes n shows = by (o.draws.touched n) refl
    where
      by : (b : Bool) → o.draws.touched n ≡ b → (left.copies m n).bytes ≡ versions n ((w.pages n).last + 1)
      by true e = (is_new n e).bytes
      by false e = absurd (not_new n e shows)
