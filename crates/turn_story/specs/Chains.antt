-- Events that a relation tells, one after another.
use Rattle.std.specs.Prelude.{◌≡◌, ℕ, zero, suc, List, [], ◌∷◌, Option, Some, None, slice_get, slice_set}

module _ {P : Type 0} where
  -- the caller's part. Callers are counted from 1, and the list has their parts in order
  abbrev pub part_of : List P → ℕ → Option P
  part_of parts zero = None
  part_of parts (suc k) = slice_get parts k

  -- the parts, where this is now the caller's
  abbrev pub with_part : List P → ℕ → P → List P
  with_part parts zero p = parts
  with_part parts (suc k) p = slice_set parts k p

module _ {M P : Type 0} (caller : ℕ → ℕ) (steps : M → P → ℕ → M → P → Type 0) where
  -- one event leads from the value m and these parts to n and those: it changes the value and its caller's part
  pub record Goes (m : M) (parts : List P) (event : ℕ) (n : M) (others : List P) : Type 0 where
    pub had : P
    pub has : P
    pub mine : part_of parts (caller event) ≡ Some had
    pub step : steps m had event n has
    pub left : others ≡ with_part parts (caller event) has

  -- these events, one after another, lead from the value m and these parts to n and those
  abbrev pub Leads : M → List P → List ℕ → M → List P → Type 0
  Leads m parts [] n others = (n ≡ m) × (others ≡ parts)
  Leads m parts (event ∷ events) n others = (k : M) × (next : List P) × Goes m parts event k next × Leads k next events n others
