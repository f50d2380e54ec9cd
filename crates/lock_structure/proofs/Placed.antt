-- How many retained records stand before a bucket.
use Rattle.std.proofs.Common.{◌≡◌, ℕ, zero, suc, ◌+◌, ◌-◌, ◌<◌, ◌≤◌, List, [], ◌∷◌, ◌++◌, length, set, get_or, drop, refl, sym, ◌∙◌, ap, arith, add-one}
use Rattle.std.specs.Prelude.{Option, Some, None, slice_get}
use Rattle.std.proofs.lemmas.List.{length-set}
use Rattle.lock_names.specs.Given.{Name}
use Rattle.lock_names.specs.declared.mode.Mode.{Mode}
use Rattle.lock_structure.specs.declared.chain.Held.{Held}
use Rattle.lock_structure.specs.declared.cursor.Cursor.{Cursor}
use Rattle.lock_structure.specs.Records.{retained_of, names_of}
use Rattle.lock_structure.specs.Buckets.{all_retained, recorded_in, released_in, retained_before, IsPlaced}
use Rattle.lock_structure.proofs.Retained.{get_right}
use Rattle.lock_structure.proofs.Order.{recorded_names, released_list}

-- ---- a chain in the place of another

set_before : (cs : List (List Held)) (at m b : ℕ) (ys : List Held) → length (retained_of m ys) ≡ length (retained_of m (get_or cs at [])) → retained_before m (set cs at ys) b ≡ retained_before m cs b
set_before [] at m b ys e = refl
set_before (c ∷ cs) zero m zero ys e = refl
set_before (c ∷ cs) zero m (suc b) ys e = omega (arith, e)
set_before (c ∷ cs) (suc at) m zero ys e = refl
set_before (c ∷ cs) (suc at) m (suc b) ys e = let ih = set_before cs at m b ys e in omega (arith, ih)

set_later : (cs : List (List Held)) (at m b : ℕ) (ys : List Held) → b ≤ at → retained_before m (set cs at ys) b ≡ retained_before m cs b
set_later [] at m b ys l = refl
set_later (c ∷ cs) zero m zero ys l = refl
set_later (c ∷ cs) zero m (suc b) ys l = absurd (omega (arith, l))
set_later (c ∷ cs) (suc at) m zero ys l = refl
set_later (c ∷ cs) (suc at) m (suc b) ys l = let ih = set_later cs at m b ys (omega (arith, l)) in omega (arith, ih)

pub later_placed : (c : Cursor) (cs : List (List Held)) (at : ℕ) (ys : List Held) → c.bucket ≤ at → IsPlaced (Some c) cs → IsPlaced (Some c) (set cs at ys)
later_placed c cs at ys l p = (rw (length-set cs at ys) p.0, p.1 ∙ sym (set_later cs at c.member c.bucket ys l))

set_placed : (c : Option Cursor) (cs : List (List Held)) (at : ℕ) (ys : List Held) → ((k : ℕ) → length (retained_of k ys) ≡ length (retained_of k (get_or cs at []))) → IsPlaced c cs → IsPlaced c (set cs at ys)
set_placed None cs at ys e p = tt
set_placed (Some c) cs at ys e p = (rw (length-set cs at ys) p.0, p.1 ∙ sym (set_before cs at c.member c.bucket ys (e c.member)))

names_length : (xs : List (Name × Mode)) → length (names_of xs) ≡ length xs
names_length [] = refl
names_length (x ∷ xs) = let ih = names_length xs in grind (arith, ih)

pub recorded_placed : (c : Option Cursor) (cs : List (List Held)) (at m : ℕ) (n : Name) (mode : Mode) → IsPlaced c cs → IsPlaced c (set cs at (recorded_in (get_or cs at []) m n mode))
recorded_placed c cs at m n mode p = set_placed c cs at (recorded_in (get_or cs at []) m n mode)
    (λ k. sym (names_length (retained_of k (recorded_in (get_or cs at []) m n mode))) ∙ ap length (recorded_names (get_or cs at []) m n mode k) ∙ names_length (retained_of k (get_or cs at []))) p

pub released_placed : (c : Option Cursor) (cs : List (List Held)) (at m : ℕ) (n : Name) → IsPlaced c cs → IsPlaced c (set cs at (released_in (get_or cs at []) m n))
released_placed c cs at m n p = set_placed c cs at (released_in (get_or cs at []) m n) (λ k. ap length (released_list (get_or cs at []) m n k)) p

-- ---- a walk from a bucket on

pub first_before : (m : ℕ) (cs : List (List Held)) → retained_before m cs 0 ≡ 0
first_before m [] = refl
first_before m (c ∷ cs) = refl

pub next_before : (m : ℕ) (cs : List (List Held)) (b : ℕ) (d : List Held) → b < length cs → retained_before m cs (b + 1) ≡ retained_before m cs b + length (retained_of m (get_or cs b d))
next_before m [] b d l = absurd (omega (arith, l))
next_before m (c ∷ cs) zero d l = let z = first_before m cs in omega (arith, z)
next_before m (c ∷ cs) (suc b) d l = let ih = next_before m cs b d (omega (arith, l)) in rw add-one (omega (arith, rw add-one at ih))

pub from_bucket : (m : ℕ) (cs : List (List Held)) (b left at : ℕ) → left + retained_before m cs b ≡ at → slice_get (all_retained m (drop b cs)) left ≡ slice_get (all_retained m cs) at
from_bucket m [] zero left at e = refl
from_bucket m [] (suc b) left at e = refl
from_bucket m (c ∷ cs) zero left at e = let q : left ≡ at = omega (arith, e) in rw q refl
from_bucket m (c ∷ cs) (suc b) left at e =
    from_bucket m cs b left (left + retained_before m cs b) refl
    ∙ sym (get_right (retained_of m c) (all_retained m cs) (left + retained_before m cs b) at (omega (arith, e)))
