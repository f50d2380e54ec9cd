-- A series grows at its end as a loop makes it.
use Rattle.std.proofs.Common.{◌≡◌, ℕ, zero, suc, ◌+◌, ◌<◌, ◌≤◌, List, [], ◌∷◌, ◌++◌, length, refl, sym, ap, ◌∙◌, add-one, add-zero, arith}
use Rattle.std.specs.List.{flat_map, AllByRecursion}
use Rattle.work_maker.specs.Made.{series}

-- one more behind the others
pub series_suc : {X : Type 0} (make : ℕ → ℕ → X × ℕ) (count number x : ℕ)
    → series make (suc count) number x ≡ ((series make count number x).0 ++ (make (number + count) (series make count number x).1).0 ∷ [], (make (number + count) (series make count number x).1).1)
unfolding series
series_suc make zero number x = rw add-zero refl
series_suc {X} make (suc c) number x =
    let e : number + 1 + c ≡ number + suc c = omega arith in
    let first : X × ℕ = make number x in
    let mid : List X × ℕ = series make c (number + 1) first.1 in
    let more : ℕ → List X × ℕ = λ k. (mid.0 ++ (make k mid.1).0 ∷ [], (make k mid.1).1) in
    let put : List X × ℕ → List X × ℕ = λ r. (first.0 ∷ r.0, r.1) in
    ap put (series_suc make c (number + 1) first.1 ∙ ap more e)

pub step_items : {X : Type 0} (make : ℕ → ℕ → X × ℕ) (count number x place state : ℕ) (item : X) (next : ℕ) → place ≡ number + count → state ≡ (series make count number x).1 → make place state ≡ (item, next)
    → (series make (count + 1) number x).0 ≡ (series make count number x).0 ++ item ∷ []
step_items make count number x place state item next p s m =
    rw (add-one, series_suc make count number x, ← s, ← p, m) refl

pub step_state : {X : Type 0} (make : ℕ → ℕ → X × ℕ) (count number x place state : ℕ) (item : X) (next : ℕ) → place ≡ number + count → state ≡ (series make count number x).1 → make place state ≡ (item, next)
    → (series make (count + 1) number x).1 ≡ next
step_state make count number x place state item next p s m =
    rw (add-one, series_suc make count number x, ← s, ← p, m) refl

-- a whole loop's step
pub step : {X : Type 0} (make : ℕ → ℕ → X × ℕ) (count number x place : ℕ) (items : List X) (state : ℕ) (item : X) (next : ℕ) → place ≡ number + count → series make count number x ≡ (items, state) → make place state ≡ (item, next)
    → series make (count + 1) number x ≡ (items ++ item ∷ [], next)
step make count number x place items state item next p s m =
    let q : make (number + count) state ≡ (item, next) = ap (λ (k : ℕ). make k state) (sym p) ∙ m in
    rw (add-one, series_suc make count number x, s, q) refl

pub length_series : {X : Type 0} (make : ℕ → ℕ → X × ℕ) (count number x : ℕ) → length (series make count number x).0 ≡ count
unfolding series
length_series make zero number x = refl
length_series make (suc c) number x = ap suc (length_series make c (number + 1) (make number x).1)

-- what holds of each thing that is made holds of all of them
pub series_all : {X : Type 0} (P : X → Type 0) (make : ℕ → ℕ → X × ℕ) (count number x : ℕ) → ((k y : ℕ) → number ≤ k → k < number + count → P (make k y).0) → AllByRecursion P (series make count number x).0
unfolding series
series_all P make zero number x h = tt
series_all P make (suc c) number x h =
    (h number x (omega arith) (omega arith), series_all P make c (number + 1) (make number x).1 (λ k y a b. h k y (omega arith) (omega arith)))

pub all_weaker : {X : Type 0} (P Q : X → Type 0) → ((x : X) → P x → Q x) → (xs : List X) → AllByRecursion P xs → AllByRecursion Q xs
all_weaker P Q f [] h = tt
all_weaker P Q f (x ∷ xs) h = (f x h.0, all_weaker P Q f xs h.1)

pub flat_none : {X A : Type 0} (f : X → List A) (xs : List X) → AllByRecursion (λ x. f x ≡ []) xs → flat_map f xs ≡ []
flat_none f [] h = refl
flat_none f (x ∷ xs) h = let rest = flat_none f xs h.1 in rw (h.0, rest) refl
