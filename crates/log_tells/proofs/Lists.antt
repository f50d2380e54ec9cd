-- Lists of records, and tests of them one behind the other.
use Rattle.std.proofs.Common.{◌≡◌, ℕ, ◌≤◌, Bool, true, false, cond, List, [], ◌∷◌, ◌++◌, refl, sym, ap, ◌∙◌, arith, inl, inr}
use Rattle.std.specs.Prelude.{filter, map, ◌&&◌}
use Rattle.std.specs.List.{AllByRecursion}
use Rattle.std.proofs.lemmas.Bool.{cases_Bool}
use Rattle.ds_model.specs.declared.log.LogRecord.{LogRecord}
use Rattle.log_tells.specs.Told.{Told, records_of}

-- ---- two tests

swap-when : {X : Type 0} (p q : X → Bool) (x : X) (xs : List X) (b c : Bool) → p x ≡ b → q x ≡ c → filter p (filter q xs) ≡ filter q (filter p xs) → filter p (filter q (x ∷ xs)) ≡ filter q (filter p (x ∷ xs))
swap-when p q x xs true true e f ih = rw (f, e, f, ih)
swap-when p q x xs true false e f ih = rw (f, e, f, ih)
swap-when p q x xs false true e f ih = rw (f, e, ih)
swap-when p q x xs false false e f ih = rw (f, e, ih)

pub filter-swap : {X : Type 0} (p q : X → Bool) (xs : List X) → filter p (filter q xs) ≡ filter q (filter p xs)
filter-swap p q [] = refl
filter-swap p q (x ∷ xs) = swap-when p q x xs (p x) (q x) refl refl (filter-swap p q xs)

-- what passes the first test passes the second one
within-when : {X : Type 0} (p q : X → Bool) (x : X) (xs : List X) (b c : Bool) → p x ≡ b → q x ≡ c → (p x ≡ true → q x ≡ true) → filter p (filter q xs) ≡ filter p xs → filter p (filter q (x ∷ xs)) ≡ filter p (x ∷ xs)
within-when p q x xs true c e f h ih = rw (h e, e, ih)
within-when p q x xs false true e f h ih = rw (f, e, ih)
within-when p q x xs false false e f h ih = rw (f, e, ih)

pub filter-within : {X : Type 0} (p q : X → Bool) (xs : List X) → ((x : X) → p x ≡ true → q x ≡ true) → filter p (filter q xs) ≡ filter p xs
filter-within p q [] h = refl
filter-within p q (x ∷ xs) h = within-when p q x xs (p x) (q x) refl refl (h x) (filter-within p q xs h)

-- one test behind the other is both
pub filter-both : {X : Type 0} (p q : X → Bool) (xs : List X) → filter (λ x. p x && q x) xs ≡ filter q (filter p xs)
filter-both p q [] = refl
filter-both p q (x ∷ xs) = elim (cases_Bool (p x)) [ inl e ↦ rw (e, filter-both p q xs) | inr e ↦ rw (e, filter-both p q xs) ]

pub filter-none : {X : Type 0} (p : X → Bool) (xs : List X) → AllByRecursion (λ x. p x ≡ false) xs → filter p xs ≡ []
filter-none p [] h = refl
filter-none p (x ∷ xs) h = rw (h.0, filter-none p xs h.1)

-- a test of records
pub filter-records : (p : LogRecord → Bool) (ts : List Told) → filter p (records_of ts) ≡ records_of (filter (λ (t : Told). p t.it) ts)
filter-records p [] = refl
filter-records p (t ∷ ts) = elim (cases_Bool (p t.it)) [ inl e ↦ rw (e, filter-records p ts) | inr e ↦ rw (e, filter-records p ts) ]

-- ---- what holds of each

pub all_filter : {X : Type 0} (P : X → Type 0) (p : X → Bool) (xs : List X) → AllByRecursion P xs → AllByRecursion P (filter p xs)
all_filter P p [] h = tt
all_filter P p (x ∷ xs) h = elim (cases_Bool (p x)) [ inl e ↦ rw e (h.0, all_filter P p xs h.1) | inr e ↦ rw e (all_filter P p xs h.1) ]

pub all_more : {X : Type 0} (P : X → Type 0) (xs : List X) (x : X) → AllByRecursion P xs → P x → AllByRecursion P (xs ++ x ∷ [])
all_more P [] x h k = (k, tt)
all_more P (y ∷ ys) x h k = (h.0, all_more P ys x h.1 k)

pub all_weaker : {X : Type 0} (P Q : X → Type 0) (xs : List X) → ((x : X) → P x → Q x) → AllByRecursion P xs → AllByRecursion Q xs
all_weaker P Q [] f h = tt
all_weaker P Q (x ∷ xs) f h = (f x h.0, all_weaker P Q xs f h.1)

pub all_both : {X : Type 0} (P Q : X → Type 0) (xs : List X) → AllByRecursion P xs → AllByRecursion Q xs → AllByRecursion (λ x. P x × Q x) xs
all_both P Q [] h k = tt
all_both P Q (x ∷ xs) h k = ((h.0, k.0), all_both P Q xs h.1 k.1)

pub all_records : (P : LogRecord → Type 0) (ts : List Told) → AllByRecursion (λ (t : Told). P t.it) ts → AllByRecursion P (records_of ts)
all_records P [] h = tt
all_records P (t ∷ ts) h = (h.0, all_records P ts h.1)
