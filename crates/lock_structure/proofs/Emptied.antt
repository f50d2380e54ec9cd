-- A chain whose first records are taken out one after the other.
use Rattle.std.proofs.Common.{◌≡◌, ℕ, zero, suc, ◌+◌, ◌<◌, false, List, [], ◌∷◌, ◌++◌, length, set, get_or, drop, replicate, refl, ap, ◌∙◌, arith, add-one, subst}
use Rattle.std.specs.Prelude.{Some, is_some, slice_get}
use Rattle.std.proofs.lemmas.List.{get_or-set_same, set-get_or, get_or_default}
use Rattle.lock_names.proofs.Names.{same_itself}
use Rattle.lock_structure.specs.declared.chain.Held.{Held}
use Rattle.lock_structure.specs.Buckets.{without}

first_out : (hs : List Held) (h : Held) → slice_get hs 0 ≡ Some h → length (without hs h.member h.name) + 1 ≡ length hs
first_out [] h e = cc
first_out (x ∷ xs) h e = let s = same_itself h.name in grind (arith, s, e)

-- the chain shrinks
pub first_shrinks : (cs : List (List Held)) (at : ℕ) (chain : List Held) (h : Held) → at < length cs → chain ≡ get_or cs at chain → slice_get chain 0 ≡ Some h
    → length (get_or (set cs at (without (get_or cs at []) h.member h.name)) at []) < length (get_or cs at [])
first_shrinks cs at chain h l e f =
    let same : chain ≡ get_or cs at [] = e ∙ get_or_default cs at chain [] l in
    let out = first_out (get_or cs at []) h (subst (λ z. slice_get z 0 ≡ Some h) same f) in
    rw (get_or-set_same cs at (without (get_or cs at []) h.member h.name) [] l) (omega (arith, out))

none_first : (hs : List Held) → is_some (slice_get hs 0) ≡ false → hs ≡ []
none_first [] e = refl
none_first (x ∷ xs) e = cc

pub is_empty : (cs : List (List Held)) (at : ℕ) (chain : List Held) → at < length cs → chain ≡ get_or cs at chain → is_some (slice_get chain 0) ≡ false → set cs at [] ≡ cs
is_empty cs at chain l e f =
    let same : chain ≡ get_or cs at [] = e ∙ get_or_default cs at chain [] l in
    let none : get_or cs at [] ≡ [] = none_first (get_or cs at []) (subst (λ z. is_some (slice_get z 0) ≡ false) same f) in
    subst (λ z. set cs at z ≡ cs) none (set-get_or cs at [])

pub fill_more : {X : Type 0} → (x : X) (xs : List X) (at : ℕ) → at < length xs → set (replicate at x ++ drop at xs) at x ≡ replicate (at + 1) x ++ drop (at + 1) xs
fill_more x [] at l = absurd (omega (arith, l))
fill_more x (y ∷ ys) zero l = refl
fill_more x (y ∷ ys) (suc at) l = let ih = fill_more x ys at (omega (arith, l)) in rw add-one (ap (λ z. x ∷ z) (rw add-one at ih))
