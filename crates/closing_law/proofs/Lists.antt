-- What holds of each item of a list, as the list changes.
use Rattle.std.proofs.Common.{◌≡◌, ℕ, zero, suc, List, [], ◌∷◌, ◌++◌, drop, take}
use Rattle.std.specs.Prelude.{remove, slice_index_or, slice_set}
use Rattle.std.specs.List.{AllByRecursion}

module _ {X : Type 0} (P : X → Type 0) where
  pub all_set : (xs : List X) (k : ℕ) (x : X) → AllByRecursion P xs → P x → AllByRecursion P (slice_set xs k x)
  all_set [] k x h new = h
  all_set (y ∷ ys) zero x h new = (new, h.1)
  all_set (y ∷ ys) (suc k) x h new = (h.0, all_set ys k x h.1 new)

  pub all_at : (xs : List X) (k : ℕ) (d : X) → AllByRecursion P xs → P d → P (slice_index_or xs k d)
  all_at [] k d h none = none
  all_at (y ∷ ys) zero d h none = h.0
  all_at (y ∷ ys) (suc k) d h none = all_at ys k d h.1 none

  pub all_push : (xs : List X) (x : X) → AllByRecursion P xs → P x → AllByRecursion P (xs ++ x ∷ [])
  all_push [] x h new = (new, tt)
  all_push (y ∷ ys) x h new = (h.0, all_push ys x h.1 new)

  pub all_removed : (xs : List X) (k : ℕ) → AllByRecursion P xs → AllByRecursion P (remove xs k)
  all_removed [] zero h = tt
  all_removed [] (suc k) h = tt
  all_removed (y ∷ ys) zero h = h.1
  all_removed (y ∷ ys) (suc k) h = (h.0, all_removed ys k h.1)

pub all_as : {X : Type 0} (P Q : X → Type 0) (xs : List X) → ((x : X) → P x → Q x) → AllByRecursion P xs → AllByRecursion Q xs
all_as P Q [] f h = tt
all_as P Q (x ∷ xs) f h = (f x h.0, all_as P Q xs f h.1)
