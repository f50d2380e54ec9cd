-- The order of page writes gives the guard of a write, and the logs that of a failure.
use Rattle.std.proofs.Common.{◌≡◌, refl, ℕ, suc, ◌-◌, ◌<◌, ◌≤◌, sym, ◌∙◌, subst, arith, Some, inl, inr}
use Rattle.std.specs.Prelude.{◌≢◌}
use Rattle.std.proofs.lemmas.Bool.{cases_eq, cases_lt}
use Rattle.index_protocol.specs.Index.{Link, World, Unmade, Branch}
use Rattle.index_protocol.specs.Whole.{WholeIndex}
use Rattle.index_protocol.specs.Order.{OrderGives, SearchMayEnter, SearchMayGive, FailureIsCut}

some_of : (w : World) (q : ℕ) → WholeIndex w → w.rest.kind q ≢ Unmade → (w.rest.shown q ≡ 0 → w.rest.shown q ≡ (w.pages q).last) → 1 ≤ w.rest.shown q
some_of w q s made all = elim (cases_eq (w.rest.shown q) 0) [
  | inl e ↦ (let a = all e in let b = (s.shape q).made made in omega (arith, a, b))
  | inr ne ↦ omega (arith, ne)
]

pub order : OrderGives
order w n s o = record {
  grows = (s.shape n).seen;
  within = omega arith;
  right = λ u l lt le is. right u l (omega (arith, lt)) le is;
  child = λ u k c branch lt le is. child u k c branch (omega (arith, lt)) le is;
  parted = λ u k c q branch lt le is. parted u k c q branch (omega (arith, lt)) le is;
}
  where
    right : (u : ℕ) (l : Link) → 1 ≤ u → u ≤ (w.pages n).last → (w.pages n).link u ≡ Some l → 1 ≤ w.rest.shown l.right
    right u l a b is =
        let t = s.shape n in
        let kind = t.right_kind u l a b is in
        let low = t.right_low u l a b is in
        let up = t.above u l a b is in
        some_of w l.right s (λ e. (let z = t.unmade (sym kind ∙ e) in omega (arith, a, b, z))) (λ none. o.right l.right (t.right_writer u l a b is none) kind (omega (arith, low, up)))

    child : (u k c : ℕ) → w.rest.kind n ≡ Branch → 1 ≤ u → u ≤ (w.pages n).last → (w.pages n).entry u k ≡ Some c → 1 ≤ w.rest.shown c
    child u k c branch a b is =
        let leaf = (s.shape n).child u k c branch a b is in
        some_of w c s (λ e. cc) (λ none. o.leaves c branch ((s.shape n).child_writer u k c branch a b is none) leaf)

    parted : (u k c q : ℕ) → w.rest.kind n ≡ Branch → 1 ≤ u → u ≤ (w.pages n).last → (w.pages n).entry u k ≡ Some c → w.rest.parted_at c q ≤ w.rest.shown q
    parted u k c q branch a b is = elim (cases_lt (w.rest.shown q) (w.rest.parted_at c q)) [
      | inl lt ↦ (
          let leaf = (s.shape n).child u k c branch a b is in
          let kind = s.paths.kinds c q (λ e. cc) (omega (arith, lt)) in
          let all = o.leaves q branch ((s.shape n).child_opener u k c q branch a b is lt) (kind ∙ leaf) in
          let made = s.paths.made c q (λ e. cc) in
          omega (arith, all, made))
      | inr ge ↦ ge
    ]

pub failure : FailureIsCut
failure w logs m stable c s one cut seen one_kept two_kept n = record {
  short = (cut n).short;
  kept = seen n;
  others = others;
  gone = λ made none. elim (cases_lt 0 (w.rest.parted_at n (w.rest.split_of n))) [
    | inl lt ↦ gone made none (pred_of (w.rest.parted_at n (w.rest.split_of n)) lt)
    | inr ge ↦ absurd (shown_root made none (omega (arith, ge)))
  ];
  stays = λ made some. elim (cases_lt 0 (w.rest.parted_at n (w.rest.split_of n))) [
    | inl lt ↦ stays_at made some (pred_of (w.rest.parted_at n (w.rest.split_of n)) lt)
    | inr ge ↦ omega (arith, ge)
  ];
  child = child;
}
  where
    others : w.rest.writer n ≢ m → c n ≡ (w.pages n).last
    others ne = elim (cases_lt (c n) (w.pages n).last) [
      | inl lt ↦ absurd (ne (sym (one.writer n (c n) (seen n) lt) ∙ (cut n).gone_author (c n) (omega arith) lt))
      | inr ge ↦ (let short = (cut n).short in omega (arith, ge, short))
    ]

    pred_of : (b : ℕ) → 1 ≤ b → (i : ℕ) × (b ≡ suc i)
    pred_of b h = (b - 1, omega arith)

    shown_root : w.rest.kind n ≢ Unmade → c n ≡ 0 → w.rest.parted_at n (w.rest.split_of n) ≡ 0 → ⊥
    shown_root made none is = elim (cases_eq n 1) [
      | inl e ↦ (let a = subst (λ z. 1 ≤ c z) (sym e) one_kept in omega (arith, a, none))
      | inr ne ↦ (let a = subst (λ z. 1 ≤ c z) (sym (s.paths.roots n made is ne)) two_kept in omega (arith, a, none))
    ]

    gone : w.rest.kind n ≢ Unmade → c n ≡ 0 → (i : ℕ) × (w.rest.parted_at n (w.rest.split_of n) ≡ suc i) → c (w.rest.split_of n) < w.rest.parted_at n (w.rest.split_of n)
    gone made none i =
        let here = (s.shape n).made made in
        let a = (cut n).gone_author 0 (omega (arith, none)) here in
        let p = (cut n).gone_place 0 (omega (arith, none)) here in
        let hid : w.rest.shown n ≡ 0 = let q = seen n in omega (arith, q, none) in
        let e = one.split_author n i.0 made i.1 (inl hid) in
        let f = one.split_place n i.0 made i.1 (inl hid) in
        let k : i.0 < c (w.rest.split_of n) → logs.place (w.rest.split_of n) i.0 < stable = λ lt. (cut (w.rest.split_of n)).kept i.0 lt (e ∙ a) in
        let b = i.1 in grind (arith, p, f, k, b)

    lost : w.rest.kind n ≢ Unmade → 1 ≤ c n → (i : ℕ) → w.rest.parted_at n (w.rest.split_of n) ≡ suc i → c (w.rest.split_of n) ≤ i → ⊥
    lost made some i b le =
        let hid : w.rest.shown (w.rest.split_of n) ≤ i = let q = seen (w.rest.split_of n) in omega (arith, q, le) in
        let e = one.split_author n i made b (inr hid) in
        let f = one.split_place n i made b (inr hid) in
        let top : i < (w.pages (w.rest.split_of n)).last = let l = s.paths.made n (w.rest.split_of n) made in omega (arith, l, b) in
        let k = (cut n).kept 0 (omega (arith, some)) (sym e ∙ (cut (w.rest.split_of n)).gone_author i le top) in
        let q = (cut (w.rest.split_of n)).gone_place i le top in
        omega (arith, f, k, q)

    stays_at : w.rest.kind n ≢ Unmade → 1 ≤ c n → (i : ℕ) × (w.rest.parted_at n (w.rest.split_of n) ≡ suc i) → w.rest.parted_at n (w.rest.split_of n) ≤ c (w.rest.split_of n)
    stays_at made some i = elim (cases_lt i.0 (c (w.rest.split_of n))) [
      | inl lt ↦ (let b = i.1 in omega (arith, b, lt))
      | inr le ↦ absurd (lost made some i.0 i.1 le)
    ]

    child_at : (i k r : ℕ) → w.rest.kind n ≡ Branch → suc i ≤ c n → (w.pages n).entry (suc i) k ≡ Some r → w.rest.shown r ≡ 0 → c r ≡ 0 → ⊥
    child_at i k r branch le is hid none =
        let top : i < (w.pages n).last = let short = (cut n).short in omega (arith, le, short) in
        let leaf = (s.shape n).child (suc i) k r branch (omega arith) (omega (arith, top)) is in
        let here = (s.shape r).made (λ e. cc) in
        let a = (cut r).gone_author 0 (omega (arith, none)) here in
        let p = (cut r).gone_place 0 (omega (arith, none)) here in
        let e = one.child_author n i k r branch top is hid in
        let f = one.child_place n i k r branch top is hid in
        let g = (cut n).kept i (omega (arith, le)) (e ∙ a) in
        omega (arith, p, f, g)

    child : (v k r : ℕ) → w.rest.kind n ≡ Branch → 1 ≤ v → v ≤ c n → (w.pages n).entry v k ≡ Some r → 1 ≤ c r
    child v k r branch a b is = elim (cases_eq (c r) 0) [
      | inl none ↦ absurd (let x = pred_of v a in child_at x.0 k r branch (let e = x.1 in omega (arith, e, b)) (subst (λ z. (w.pages n).entry z k ≡ Some r) x.1 is) (let q = seen r in omega (arith, q, none)) none)
      | inr ne ↦ omega (arith, ne)
    ]

pub may_give : SearchMayGive
may_give w m k n s root r leaf in' free = (record { leaf = leaf; from_low = r.low; covered = in'; free = free }, r.opens, root.there)

pub may_enter : SearchMayEnter
may_enter w m k n c s r leaf branch low in' = (record { branch = branch; child = leaf; low = refl; from_low = low; covered = in'; there = r.there }, r.opens)
