-- What each move keeps of the pointers between pages.
use Rattle.std.proofs.Common.{◌≡◌, ℕ, ◌<◌, ◌≤◌, refl, ap, ◌∙◌, arith, Bool, true, false, inl, inr, ◌⊎◌}
use Rattle.std.specs.Prelude.{◌≢◌, if◌then◌else◌}
use Rattle.page_protocol.specs.Page.{Page, Group, change, compensate, fail, all_fail, risen}
use Rattle.page_protocol.specs.Moves.{IsCut, IsWholeCut, IsRead}
use Rattle.page_protocol.specs.Coherent.{Coherent}
use Rattle.page_protocol.specs.Down.{Grounded}
use Rattle.page_protocol.specs.Links.{LinkHolds}
use Rattle.std.proofs.lemmas.Bool.{both_ways}

-- the page that is pointed to is shared no less, and reached by its sole user alone or wholly shared where it was so reached
pub record IsNoLess (p q : Page) : Type 0 where
  pub last : q.last ≡ p.last
  pub author : (i : ℕ) → q.author i ≡ p.author i
  pub place : (i : ℕ) → q.place i ≡ p.place i
  pub shared : p.shared ≤ q.shared
  pub sole : p.sole ≡ true → (q.sole ≡ true) ⊎ (q.shared ≡ q.last)

pub grown : (down lost : Bool) (p p' q q' : Page) (i c : ℕ) → IsNoLess p p' → IsNoLess q q' → (lost ≡ false → i < p'.shared → (i < p.shared) ⊎ (c < q'.shared) ⊎ (q'.sole ≡ true)) → p'.shared ≤ p'.last → LinkHolds down lost p q i c → LinkHolds down lost p' q' i c
grown down lost p p' q q' i c a b newly within k = record { there = there; made = made; shared = shared }
  where
    there : i < p'.last → c < q'.last
    there lt = let x = k.there in let y = a.last in let z = b.last in grind (arith, x, y, z)

    made : i < p'.last → (c < q'.shared) ⊎ ((p'.author i ≡ q'.author c) × (q'.place c ≤ p'.place i))
    made lt = let x = k.made in let y = a.last in let z = b.shared in let s = a.author i in let t = a.place i in let u = b.author c in let v = b.place c in grind (arith, x, y, z, s, t, u, v)

    shared : down ≡ false → lost ≡ false → i < p'.shared → (c < q'.shared) ⊎ (q'.sole ≡ true)
    shared d l lt = elim (newly l lt) [
      | inl old ↦ elim (k.shared d l old) [
        | inl is ↦ inl (let z = b.shared in omega (arith, z, is))
        | inr sole ↦ elim (b.sole sole) [ inl h ↦ inr h | inr h ↦ inl (let x = there (omega (arith, lt, within)) in omega (arith, h, x)) ]
      ]
      | inr is ↦ is
    ]

pub no_less : (p q : Page) → q.last ≡ p.last → q.author ≡ p.author → q.place ≡ p.place → q.shared ≡ p.shared → q.sole ≡ p.sole → IsNoLess p q
no_less p q a b c d e = record { last = a; author = λ i. ap (λ (f : ℕ → ℕ). f i) b; place = λ i. ap (λ (f : ℕ → ℕ). f i) c; shared = omega (arith, d); sole = λ h. inl (e ∙ h) }

-- ---- a log record
pub old_link : (down lost : Bool) (p q : Page) (m at number i c : ℕ) (tp tq : Bool) → (tp ≡ true → i ≢ p.last) → p.shared ≤ p.last → q.shared ≤ q.last → LinkHolds down lost p q i c
    → LinkHolds down lost (if tp then change p m at number else p) (if tq then change q m at number else q) i c
old_link down lost p q m at number i c true true ne a b k = let x = k.there in let y = k.made in let z = k.shared in let n = ne refl in record { there = grind (arith, x, n, a, b); made = grind (arith, x, y, n, a, b); shared = grind (arith, z) }
old_link down lost p q m at number i c true false ne a b k = let x = k.there in let y = k.made in let z = k.shared in let n = ne refl in record { there = grind (arith, x, n, a, b); made = grind (arith, x, y, n, a, b); shared = grind (arith, z) }
old_link down lost p q m at number i c false true ne a b k = let x = k.there in let y = k.made in let z = k.shared in record { there = grind (arith, x, a, b); made = grind (arith, x, y, a, b); shared = grind (arith, z) }
old_link down lost p q m at number i c false false ne a b k = k

pub new_link : (down lost : Bool) (p q : Page) (m at number c : ℕ) (tq : Bool) → p.shared ≤ p.last → ((j : ℕ) → j < q.last → q.author j ≡ m → q.place j < at)
    → ((tq ≡ true) × (c ≡ q.last)) ⊎ ((c < q.last) × ((c < q.shared) ⊎ (q.author c ≡ m)))
    → LinkHolds down lost (change p m at number) (if tq then change q m at number else q) p.last c
new_link down lost p q m at number c true a after may = let x = after c in record { there = grind (arith, may); made = grind (arith, may, x); shared = grind (arith, a) }
new_link down lost p q m at number c false a after may = let x = after c in record { there = grind (arith, may); made = grind (arith, may, x); shared = grind (arith, a) }

-- ---- a failure
pub cut_link : (down lost : Bool) (g : Group) (p q : Page) (m a b i c : ℕ) → Coherent g q → IsCut g m p a → IsCut g m q b → LinkHolds down lost p q i c → LinkHolds down lost (fail p m a) (fail q m b) i c
cut_link down lost g p q m a b i c s cp cq k = record {
  there = λ lt. let x = k.there in let y = k.made in let z = cq.gone c in let t = cp.kept i lt in let u = cp.short in let w = s.stable c in grind (arith, x, y, z, t, u, w, lt);
  made = λ lt. let u = cp.short in k.made (omega (arith, lt, u));
  shared = k.shared;
}

pub whole_cut_link : (down lost d l : Bool) (g : Group) (p q : Page) (a b i c : ℕ) → d ≡ true → ((j : ℕ) → j < q.shared → q.place j < g.stable (q.author j)) → IsWholeCut g p a → IsWholeCut g q b → LinkHolds down lost p q i c → LinkHolds d l (all_fail p a) (all_fail q b) i c
whole_cut_link down lost d l g p q a b i c is s cp cq k = record {
  there = λ lt. let x = k.there in let y = k.made in let z = cq.gone c in let t = cp.kept i lt in let u = cp.short in let w = s c in grind (arith, x, y, z, t, u, w, lt);
  made = λ lt. let u = cp.short in k.made (omega (arith, lt, u));
  shared = λ e. absurd (both_ways d e is);
}

-- ---- the end of a rebuild, and of group restart
pub rebuilt_link : (down lost d l : Bool) (g : Group) (p q : Page) (i c : ℕ) → Coherent g p → Coherent g q → g.lost ≡ true → q.disk ≡ q.shared → IsRead g q q.disk → LinkHolds down lost p q i c → LinkHolds d l p q i c
rebuilt_link down lost d l g p q i c sp sq gone e has k = record {
  there = k.there;
  made = k.made;
  shared = λ x y lt. inl (let a = sp.read_shared i gone lt in let b = sp.within in let f = k.there in let m = k.made in let n = has.no_more c in grind (arith, a, b, f, m, n, e, lt));
}

pub risen_link : (down lost d l : Bool) (g : Group) (p q : Page) (i c : ℕ) → Grounded g q → LinkHolds down lost p q i c → LinkHolds d l (risen p) (risen q) i c
risen_link down lost d l g p q i c s k = record {
  there = k.there;
  made = λ lt. inl (k.there lt);
  shared = λ x y lt. inl (k.there lt);
}

-- ---- a compensation of group restart
pub compensated_link : (down lost d l : Bool) (p q : Page) (m at number i c : ℕ) (tp tq : Bool) → d ≡ true → (tp ≡ true → i ≢ p.last) → q.shared ≤ q.last → LinkHolds down lost p q i c
    → LinkHolds d l (if tp then compensate p m at number else p) (if tq then compensate q m at number else q) i c
compensated_link down lost d l p q m at number i c true true is ne b k = let x = k.there in let y = k.made in let n = ne refl in record { there = grind (arith, x, n, b); made = grind (arith, x, y, n, b); shared = λ e. absurd (both_ways d e is) }
compensated_link down lost d l p q m at number i c true false is ne b k = let x = k.there in let y = k.made in let n = ne refl in record { there = grind (arith, x, n, b); made = grind (arith, x, y, n, b); shared = λ e. absurd (both_ways d e is) }
compensated_link down lost d l p q m at number i c false true is ne b k = let x = k.there in let y = k.made in record { there = grind (arith, x, b); made = grind (arith, x, y, b); shared = λ e. absurd (both_ways d e is) }
compensated_link down lost d l p q m at number i c false false is ne b k = record { there = k.there; made = k.made; shared = λ e. absurd (both_ways d e is) }

-- a regime in which nothing is promised of shared pointers
pub regime_link : (down lost d l : Bool) (p q : Page) (i c : ℕ) → (d ≡ true) ⊎ (l ≡ true) → LinkHolds down lost p q i c → LinkHolds d l p q i c
regime_link down lost d l p q i c is k = record { there = k.there; made = k.made; shared = λ e f. absurd (none e f) }
  where
    none : d ≡ false → l ≡ false → ⊥
    none e f = elim is [ inl h ↦ both_ways d e h | inr h ↦ both_ways l f h ]
