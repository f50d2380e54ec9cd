-- The retained records of one chain after the other.
use Rattle.std.proofs.Common.{◌≡◌, ℕ, zero, suc, ◌+◌, ◌<◌, refl, arith, List, [], ◌∷◌, ◌++◌, length, drop, get_or, add-one}
use Rattle.std.specs.Prelude.{slice_get, Some}
use Rattle.lock_names.specs.Given.{Name}
use Rattle.lock_names.specs.declared.mode.Mode.{Mode}
use Rattle.lock_structure.specs.declared.chain.Held.{Held}
use Rattle.lock_structure.specs.Records.{retained_of}
use Rattle.lock_structure.specs.Buckets.{all_retained}

pub retained_step : (cs : List (List Held)) (i m : ℕ) (d : List Held) → i < length cs → all_retained m (drop i cs) ≡ retained_of m (get_or cs i d) ++ all_retained m (drop (i + 1) cs)
retained_step [] i m d h = absurd (omega arith)
retained_step (x ∷ xs) zero m d h = refl
retained_step (x ∷ xs) (suc i) m d h = let ih = retained_step xs i m d (omega arith) in rw add-one (rw add-one at ih)

get_left : (xs ys : List (Name × Mode)) (i : ℕ) (x : Name × Mode) → slice_get xs i ≡ Some x → slice_get (xs ++ ys) i ≡ Some x
get_left [] ys i x e = cc
get_left (y ∷ xs) ys zero x e = e
get_left (y ∷ xs) ys (suc i) x e = get_left xs ys i x e

pub get_right : (xs ys : List (Name × Mode)) (j at : ℕ) → j + length xs ≡ at → slice_get (xs ++ ys) at ≡ slice_get ys j
get_right [] ys j at e = let q : at ≡ j = omega (arith, e) in rw q refl
get_right (x ∷ xs) ys j zero e = absurd (omega (arith, e))
get_right (x ∷ xs) ys j (suc at) e = get_right xs ys j at (omega (arith, e))

pub get_here : (cs : List (List Held)) (i m left : ℕ) (d : List Held) (x : Name × Mode) → i < length cs → slice_get (retained_of m (get_or cs i d)) left ≡ Some x → slice_get (all_retained m (drop i cs)) left ≡ Some x
get_here cs i m left d x h e = rw (retained_step cs i m d h) (get_left _ _ left x e)

pub get_later : (cs : List (List Held)) (i m left at : ℕ) (d : List Held) → i < length cs → left + length (retained_of m (get_or cs i d)) ≡ at → slice_get (all_retained m (drop i cs)) at ≡ slice_get (all_retained m (drop (i + 1) cs)) left
get_later cs i m left at d h e = rw (retained_step cs i m d h) (get_right (retained_of m (get_or cs i d)) _ left at e)
