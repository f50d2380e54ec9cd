-- The raises of a phase are noted one by one.
use Rattle.std.proofs.Common.{◌≡◌, ℕ, zero, suc, ◌+◌, ◌<◌, ◌≤◌, ◌==◌, List, [], ◌∷◌, ◌++◌, length, take, replicate, Option, Some, None, slice_index_or, if◌then◌else◌, refl, sym, ap, subst, ◌∙◌}
use Rattle.std.specs.List.{flat_map}
use Rattle.std.proofs.lemmas.List.{append-nil, take_all, take_more}
use Rattle.std.proofs.lemmas.List.Concat.{flat_map-append}
use Rattle.ds_base.specs.declared.names.TranId.{TranId}
use Rattle.script_phases.specs.Phases.{Noted, last_raiser, later_of}

none_before : (o : Option TranId) → later_of None o ≡ o
none_before None = refl
none_before (Some id) = refl

later_later : (a b c : Option TranId) → later_of (later_of a b) c ≡ later_of a (later_of b c)
later_later a b None = refl
later_later a b (Some id) = refl

last_append : (flag : ℕ) (rs ss : List (ℕ × TranId)) → last_raiser flag (rs ++ ss) ≡ later_of (last_raiser flag rs) (last_raiser flag ss)
last_append flag [] ss = sym (none_before (last_raiser flag ss))
last_append flag (r ∷ rs) ss =
    ap (later_of (if r.0 == flag then Some r.1 else None)) (last_append flag rs ss) ∙ sym (later_later (if r.0 == flag then Some r.1 else None) (last_raiser flag rs) (last_raiser flag ss))

noted_append : (rs ss : List (ℕ × TranId)) (xs ys zs : List (Option TranId)) → Noted rs xs ys → Noted ss ys zs → Noted (rs ++ ss) xs zs
noted_append rs ss xs ys zs first second = λ k within.
    second k within
    ∙ (ap (λ (o : Option TranId). later_of o (last_raiser (k + 1) ss)) (first k within)
    ∙ (later_later (slice_index_or xs k None) (last_raiser (k + 1) rs) (last_raiser (k + 1) ss)
    ∙ ap (later_of (slice_index_or xs k None)) (sym (last_append (k + 1) rs ss))))

-- nothing is noted yet
pub noted_none : (xs : List (Option TranId)) → Noted [] xs xs
noted_none xs = λ k within. refl

-- one item more
pub noted_more : {A : Type 0} (f : A → List (ℕ × TranId)) (items : List A) (i : ℕ) (item : A) (xs ys zs : List (Option TranId)) → i < length items → item ≡ slice_index_or items i item
    → Noted (flat_map f (take i items)) xs ys → Noted (f item) ys zs → Noted (flat_map f (take (i + 1) items)) xs zs
noted_more {A} f items i item xs ys zs within is before one =
    let nil : f item ++ [] ≡ f item = append-nil (f item) in
    let all : Noted (flat_map f (take i items) ++ f item) xs zs = noted_append (flat_map f (take i items)) (f item) xs ys zs before one in
    let more : take i items ++ item ∷ [] ≡ take (i + 1) items = ap (λ (x : A). take i items ++ x ∷ []) is ∙ sym (take_more items i item within) in
    let same : flat_map f (take i items) ++ f item ≡ flat_map f (take (i + 1) items) =
    ap (λ (its : List (ℕ × TranId)). flat_map f (take i items) ++ its) (sym nil) ∙ (sym (flat_map-append f (take i items) (item ∷ [])) ∙ ap (flat_map f) more) in
    subst (λ (rs : List (ℕ × TranId)). Noted rs xs zs) same all

abbrev pub nobody : Option TranId
nobody = None

-- where nobody was to raise any before
pub none_was : (n k : ℕ) → slice_index_or (replicate n nobody) k nobody ≡ nobody
none_was zero k = refl
none_was (suc n) zero = refl
none_was (suc n) (suc k) = none_was n k

-- all items are noted
pub noted_all : {A : Type 0} (f : A → List (ℕ × TranId)) (items : List A) (n : ℕ) (xs ys : List (Option TranId)) → length items ≤ n
    → ((k : ℕ) → slice_index_or xs k None ≡ None) → Noted (flat_map f (take n items)) xs ys
    → (k : ℕ) → k < 64 → slice_index_or ys k None ≡ last_raiser (k + 1) (flat_map f items)
noted_all {A} f items n xs ys all none noted = λ k within.
    noted k within
    ∙ (ap (λ (o : Option TranId). later_of o (last_raiser (k + 1) (flat_map f (take n items)))) (none k)
    ∙ (none_before (last_raiser (k + 1) (flat_map f (take n items)))
    ∙ ap (λ (its : List A). last_raiser (k + 1) (flat_map f its)) (take_all n items all)))
