-- What is found of one record more, and of two kinds of pages.
use Rattle.std.proofs.Common.{◌≡◌, ◌⊎◌, ℕ, zero, suc, ◌<◌, ◌≤◌, Bool, true, false, cond, List, [], ◌∷◌, ◌++◌, length, get_or, take, Option, Some, None, inl, inr, refl, sym, ap, subst, ◌∙◌, arith}
use Rattle.std.specs.Prelude.{◌==◌, nat_lt, ◌&&◌, ◌||◌}
use Rattle.std.proofs.lemmas.Bool.{cases_lt}
use Rattle.std.proofs.lemmas.Bool.Decides.{nat_tests}
use Rattle.std.proofs.lemmas.List.{take-append-le, take_at}
use Rattle.ds_base.specs.declared.names.PageId.{PageId}
use Rattle.ds_model.specs.declared.log.LogRecord.{LogRecord}
use Rattle.ds_model.specs.declared.log.Body.{Body}
use Rattle.ds_model.specs.declared.log.Body.TheVariants as body
use Rattle.stood_rows.specs.declared.unstood.Unstood.{Unstood}
use Rattle.stood_rows.specs.Found.{item_at, PartStood, part_page, is_for, StoodFor, FailsOn, StoodAt, is_before, IsFirst, AreFound, IsTold}
use Rattle.stood_rows.specs.Laws.{NoneAreFound, BothAreFound, SameAreFound}

-- ---- a list with one more at its end

module _ {X : Type 0} where
  at_front : (xs : List X) (x : X) (i : ℕ) → i < length xs → item_at (xs ++ x ∷ []) i ≡ item_at xs i
  at_front [] x i lt = absurd (omega arith)
  at_front (y ∷ xs) x zero lt = refl
  at_front (y ∷ xs) x (suc i) lt = at_front xs x i (omega arith)

  at_end : (xs : List X) (x : X) → item_at (xs ++ x ∷ []) (length xs) ≡ Some x
  at_end [] x = refl
  at_end (y ∷ xs) x = at_end xs x

  pub at_past : (xs : List X) (i : ℕ) → length xs ≤ i → item_at xs i ≡ None
  at_past [] i le = refl
  at_past (y ∷ xs) zero le = absurd (omega arith)
  at_past (y ∷ xs) (suc i) le = at_past xs i (omega arith)

  at_beyond : (xs : List X) (x : X) (i : ℕ) → length xs < i → item_at (xs ++ x ∷ []) i ≡ None
  at_beyond [] x zero lt = absurd (omega arith)
  at_beyond [] x (suc i) lt = refl
  at_beyond (y ∷ xs) x zero lt = absurd (omega arith)
  at_beyond (y ∷ xs) x (suc i) lt = at_beyond xs x i (omega arith)

  pub within : (xs : List X) (i : ℕ) (x : X) → item_at xs i ≡ Some x → i < length xs
  within [] i x e = absurd cc
  within (y ∷ xs) zero x e = omega arith
  within (y ∷ xs) (suc i) x e = let rest = within xs i x e in omega (arith, rest)

  pub at_is : (xs : List X) (i : ℕ) (d : X) → i < length xs → item_at xs i ≡ Some (get_or xs i d)
  at_is [] i d lt = absurd (omega arith)
  at_is (y ∷ xs) zero d lt = refl
  at_is (y ∷ xs) (suc i) d lt = at_is xs i d (omega arith)

front_same : (rs : List LogRecord) (r : LogRecord) (i : ℕ) → i ≤ length rs → take i (rs ++ r ∷ []) ≡ take i rs
front_same rs r i le = take-append-le i rs (r ∷ []) le

-- ---- one record more

moved : (has : PageId → Bool) (e f : List LogRecord) (o p : Option LogRecord) (k : ℕ) → e ≡ f → o ≡ p → StoodFor has e o k → StoodFor has f p k
moved has e f o p k same is h = subst (λ (l : List LogRecord). StoodFor has l p k) same (subst (λ (q : Option LogRecord). StoodFor has e q k) is h)

failing : (e f : List LogRecord) (o p : Option LogRecord) (k : ℕ) (id : PageId) → e ≡ f → o ≡ p → FailsOn e o k id → FailsOn f p k id
failing e f o p k id same is h = subst (λ (l : List LogRecord). FailsOn l p k id) same (subst (λ (q : Option LogRecord). FailsOn e q k id) is h)

-- a change of one of the records before
stood_front : (has : PageId → Bool) (rs : List LogRecord) (r : LogRecord) (i k : ℕ) → i < length rs → StoodAt has rs i k → StoodAt has (rs ++ r ∷ []) i k
stood_front has rs r i k lt h = moved has (take i rs) (take i (rs ++ r ∷ [])) (item_at rs i) (item_at (rs ++ r ∷ []) i) k (sym (front_same rs r i (omega arith))) (sym (at_front rs r i lt)) h

-- of this one
stood_end : (has : PageId → Bool) (rs : List LogRecord) (r : LogRecord) (i k : ℕ) → i ≡ length rs → StoodFor has rs (Some r) k → StoodAt has (rs ++ r ∷ []) i k
stood_end has rs r i k is h =
    subst (λ (n : ℕ). StoodAt has (rs ++ r ∷ []) n k) (sym is)
    (moved has rs (take (length rs) (rs ++ r ∷ [])) (Some r) (item_at (rs ++ r ∷ []) (length rs)) k (sym (take_at rs (r ∷ []) (length rs) refl)) (sym (at_end rs r)) h)

stood_past : (has : PageId → Bool) (rs : List LogRecord) (r : LogRecord) (i k : ℕ) → length rs < i → StoodAt has (rs ++ r ∷ []) i k
stood_past has rs r i k lt = subst (λ (o : Option LogRecord). StoodFor has (take i (rs ++ r ∷ [])) o k) (sym (at_beyond rs r i lt)) tt

all_more : (has : PageId → Bool) (rs : List LogRecord) (r : LogRecord) → AreFound has rs None → ((k : ℕ) → StoodFor has rs (Some r) k) → AreFound has (rs ++ r ∷ []) None
all_more has rs r h here i k = elim (cases_lt i (length rs)) [
  | inl low ↦ stood_front has rs r i k low (h i k)
  | inr up ↦ (elim (cases_lt (length rs) i) [
    | inl past ↦ stood_past has rs r i k past
    | inr le ↦ stood_end has rs r i k (omega (arith, up, le)) (here k)
  ])
]

earlier_place : (i k index patch n : ℕ) → (nat_lt i index || ((i == index) && nat_lt k patch)) ≡ true → index ≤ n → (i < n) ⊎ ((i ≡ n) × (k < patch))
earlier_place i k index patch n e le = elim (cases_lt i n) [
  | inl low ↦ inl low
  | inr up ↦ inr (let at : i ≡ n = grind (arith, nat_tests) in let lt : k < patch = grind (arith, nat_tests) in (at, lt))
]

first_here : (has : PageId → Bool) (rs : List LogRecord) (r : LogRecord) (u : Unstood) → AreFound has rs None → u.index ≡ length rs → has u.page ≡ true → FailsOn rs (Some r) u.patch u.page
    → ((k : ℕ) → k < u.patch → StoodFor has rs (Some r) k) → AreFound has (rs ++ r ∷ []) (Some u)
first_here has rs r u h is passes fails before = record {
  passes = passes;
  fails =
      subst (λ (n : ℕ). FailsOn (take n (rs ++ r ∷ [])) (item_at (rs ++ r ∷ []) n) u.patch u.page) (sym is)
      (failing rs (take (length rs) (rs ++ r ∷ [])) (Some r) (item_at (rs ++ r ∷ []) (length rs)) u.patch u.page (sym (take_at rs (r ∷ []) (length rs) refl)) (sym (at_end rs r)) fails);
  before = λ i k e. elim (earlier_place i k u.index u.patch (length rs) e (omega (arith, is))) [
    | inl low ↦ stood_front has rs r i k low (h i k)
    | inr both ↦ stood_end has rs r i k both.0 (before k both.1)
  ];
}

fails_within : (e rs : List LogRecord) (i k : ℕ) (id : PageId) (o : Option LogRecord) → item_at rs i ≡ o → FailsOn e o k id → i < length rs
fails_within e rs i k id None is h = absurd h
fails_within e rs i k id (Some r) is h = within rs i r is

still_first : (has : PageId → Bool) (rs : List LogRecord) (r : LogRecord) (u : Unstood) → AreFound has rs (Some u) → AreFound has (rs ++ r ∷ []) (Some u)
still_first has rs r u h =
    let low : u.index < length rs = fails_within (take u.index rs) rs u.index u.patch u.page (item_at rs u.index) refl h.fails in record {
      passes = h.passes;
      fails = failing (take u.index rs) (take u.index (rs ++ r ∷ [])) (item_at rs u.index) (item_at (rs ++ r ∷ []) u.index) u.patch u.page (sym (front_same rs r u.index (omega arith))) (sym (at_front rs r u.index low)) h.fails;
      before = λ i k e. elim (earlier_place i k u.index u.patch u.index e (omega arith)) [
        | inl lt ↦ stood_front has rs r i k (omega (arith, lt, low)) (h.before i k e)
        | inr both ↦ stood_front has rs r i k (omega (arith, both.0, low)) (h.before i k e)
      ];
    }

-- ---- what is told of the record

next_none : (has : PageId → Bool) (rs : List LogRecord) (at : ℕ) (lrsn : ℕ) (b : Body) → IsTold has rs at lrsn b None → (k : ℕ) → is_for has (part_page b k) ≡ true → PartStood rs lrsn b k
next_none has rs at lrsn (body.RowChange c) h k e = h e
next_none has rs at lrsn (body.Compensation c undone) h k e = h e
next_none has rs at lrsn (body.System patches) h k e = h k e
next_none has rs at lrsn body.Commit h k e = tt
next_none has rs at lrsn body.Ended h k e = tt
next_none has rs at lrsn (body.Checkpoint offset) h k e = tt
next_none has rs at lrsn body.RestartEnd h k e = tt

pub record IsNext (has : PageId → Bool) (rs : List LogRecord) (at lrsn : ℕ) (b : Body) (u : Unstood) : Type 0 where
  pub index_is : u.index ≡ at
  pub passes : has u.page ≡ true
  pub page_is : part_page b u.patch ≡ Some u.page
  pub wrong : PartStood rs lrsn b u.patch → ⊥
  pub before : (k : ℕ) → k < u.patch → is_for has (part_page b k) ≡ true → PartStood rs lrsn b k

next_some : (has : PageId → Bool) (rs : List LogRecord) (at : ℕ) (lrsn : ℕ) (b : Body) (u : Unstood) → IsTold has rs at lrsn b (Some u) → IsNext has rs at lrsn b u
next_some has rs at lrsn (body.RowChange c) u h = record { index_is = h.index_is; passes = h.passes; page_is = ap (λ (id : PageId). Some id) (sym h.page_is); wrong = h.wrong; before = λ k lt. absurd (omega (arith, lt, h.patch_is)) }
next_some has rs at lrsn (body.Compensation c undone) u h = record { index_is = h.index_is; passes = h.passes; page_is = ap (λ (id : PageId). Some id) (sym h.page_is); wrong = h.wrong; before = λ k lt. absurd (omega (arith, lt, h.patch_is)) }
next_some has rs at lrsn (body.System patches) u h = record { index_is = h.index_is; passes = h.passes; page_is = h.page_is; wrong = h.wrong; before = h.before }
next_some has rs at lrsn body.Commit u h = absurd h
next_some has rs at lrsn body.Ended u h = absurd h
next_some has rs at lrsn (body.Checkpoint offset) u h = absurd h
next_some has rs at lrsn body.RestartEnd u h = absurd h

pub found_more : (has : PageId → Bool) (rs : List LogRecord) (r : LogRecord) (at : ℕ) (found : Option Unstood) → at ≡ length rs → AreFound has rs None → IsTold has rs at r.lrsn r.body found → AreFound has (rs ++ r ∷ []) found
found_more has rs r at None is h told = all_more has rs r h (λ k. next_none has rs at r.lrsn r.body told k)
found_more has rs r at (Some u) is h told =
    let n : IsNext has rs at r.lrsn r.body u = next_some has rs at r.lrsn r.body u told in
    first_here has rs r u h (n.index_is ∙ is) n.passes (n.page_is, n.wrong) (λ k lt. n.before k lt)

pub found_still : (has : PageId → Bool) (rs : List LogRecord) (r : LogRecord) (u : Unstood) → AreFound has rs (Some u) → AreFound has (rs ++ r ∷ []) (Some u)
found_still has rs r u h = still_first has rs r u h

-- ---- of some pages and of others

either : (a b : Bool) (P : Type 0) → (a ≡ true → P) → (b ≡ true → P) → (a || b) ≡ true → P
either true b P f g e = f refl
either false b P f g e = g e

for_both : (p q : PageId → Bool) (o : Option PageId) → (P : Type 0) → (is_for p o ≡ true → P) → (is_for q o ≡ true → P) → is_for (λ (id : PageId). p id || q id) o ≡ true → P
for_both p q None P f g e = absurd cc
for_both p q (Some id) P f g e = either (p id) (q id) P f g e

stood_both : (p q : PageId → Bool) (e : List LogRecord) (o : Option LogRecord) (k : ℕ) → StoodFor p e o k → StoodFor q e o k → StoodFor (λ (id : PageId). p id || q id) e o k
stood_both p q e None k h i = tt
stood_both p q e (Some r) k h i = for_both p q (part_page r.body k) (PartStood e r.lrsn r.body k) h i

left_passes : (a b : Bool) → a ≡ true → (a || b) ≡ true
left_passes true b e = refl
left_passes false b e = absurd cc

right_passes : (a b : Bool) → b ≡ true → (a || b) ≡ true
right_passes true b e = refl
right_passes false b e = e

-- a place before the first of both is before the other
before_later : (i k x y m n : ℕ) → (nat_lt i x || ((i == x) && nat_lt k y)) ≡ true → (nat_lt m x || ((m == x) && nat_lt n y)) ≡ false → (nat_lt i m || ((i == m) && nat_lt k n)) ≡ true
before_later i k x y m n e f = grind (arith, nat_tests)

before_sooner : (i k x y m n : ℕ) → (nat_lt i m || ((i == m) && nat_lt k n)) ≡ true → (nat_lt m x || ((m == x) && nat_lt n y)) ≡ true → (nat_lt i x || ((i == x) && nat_lt k y)) ≡ true
before_sooner i k x y m n e f = grind (arith, nat_tests)

choose : (p q : PageId → Bool) (rs : List LogRecord) (a b : Unstood) → IsFirst p rs a → IsFirst q rs b → (t : Bool) → is_before b.index b.patch a ≡ t → AreFound (λ (id : PageId). p id || q id) rs (cond t (Some b) (Some a))
choose p q rs a b f g true t = record {
  passes = right_passes (p b.page) (q b.page) g.passes;
  fails = g.fails;
  before = λ i k e. stood_both p q (take i rs) (item_at rs i) k (f.before i k (before_sooner i k a.index a.patch b.index b.patch e t)) (g.before i k e);
}
choose p q rs a b f g false t = record {
  passes = left_passes (p a.page) (q a.page) f.passes;
  fails = f.fails;
  before = λ i k e. stood_both p q (take i rs) (item_at rs i) k (f.before i k e) (g.before i k (before_later i k a.index a.patch b.index b.patch e t));
}

pub both_found : BothAreFound
both_found p q rs None None f g = λ i k. stood_both p q (take i rs) (item_at rs i) k (f i k) (g i k)
both_found p q rs None (Some b) f g = record {
  passes = right_passes (p b.page) (q b.page) g.passes;
  fails = g.fails;
  before = λ i k e. stood_both p q (take i rs) (item_at rs i) k (f i k) (g.before i k e);
}
both_found p q rs (Some a) None f g = record {
  passes = left_passes (p a.page) (q a.page) f.passes;
  fails = f.fails;
  before = λ i k e. stood_both p q (take i rs) (item_at rs i) k (f.before i k e) (g i k);
}
both_found p q rs (Some a) (Some b) f g = choose p q rs a b f g (is_before b.index b.patch a) refl

no_page : (o : Option PageId) → is_for (λ (id : PageId). false) o ≡ true → ⊥
no_page None h = absurd cc
no_page (Some id) h = absurd cc

none_for : (e : List LogRecord) (o : Option LogRecord) (k : ℕ) → StoodFor (λ (id : PageId). false) e o k
none_for e None k = tt
none_for e (Some r) k = λ h. absurd (no_page (part_page r.body k) h)

pub none_found : NoneAreFound
none_found rs i k = none_for (take i rs) (item_at rs i) k

same_for : (p q : PageId → Bool) → ((id : PageId) → p id ≡ q id) → (o : Option PageId) → is_for p o ≡ is_for q o
same_for p q h None = refl
same_for p q h (Some id) = h id

same_stood : (p q : PageId → Bool) → ((id : PageId) → p id ≡ q id) → (e : List LogRecord) (o : Option LogRecord) (k : ℕ) → StoodFor p e o k → StoodFor q e o k
same_stood p q h e None k s = tt
same_stood p q h e (Some r) k s = λ f. s (same_for p q h (part_page r.body k) ∙ f)

pub same_found : SameAreFound
same_found p q rs None h f = λ i k. same_stood p q h (take i rs) (item_at rs i) k (f i k)
same_found p q rs (Some u) h f = record {
  passes = sym (h u.page) ∙ f.passes;
  fails = f.fails;
  before = λ i k e. same_stood p q h (take i rs) (item_at rs i) k (f.before i k e);
}
