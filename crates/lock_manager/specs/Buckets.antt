-- The claims of one owner by their names: a list of chains, on which the names fall by a hash.
use Rattle.std.specs.Prelude.{◌≡◌, ℕ, ◌+◌, ◌^◌, ◌<◌, ◌≤◌, None, List, [], ◌∷◌, ◌++◌, length}
use Rattle.lock_names.specs.Entries.{entry_number}
use Rattle.lock_manager.specs.declared.claim.Claim.{Claim}
use Rattle.lock_manager.specs.Claims.{mode_in}

-- the claims of all chains, one chain after the other
abbrev pub all_in : List (List Claim) → List Claim
all_in [] = []
all_in (c ∷ cs) = c ++ all_in cs

-- the names of these claims fall on chain k of so many
abbrev pub FallOn : ℕ → ℕ → List Claim → Type 0
FallOn count k [] = Unit {0}
FallOn count k (c ∷ cs) = (entry_number c.name count ≡ k) × FallOn count k cs

-- the names of the claims of each chain fall on it; the chains are counted from k on
abbrev pub IsInPlace : ℕ → ℕ → List (List Claim) → Type 0
IsInPlace count k [] = Unit {0}
IsInPlace count k (c ∷ cs) = FallOn count k c × IsInPlace count (k + 1) cs

abbrev pub HasBuckets : List (List Claim) → Type 0
HasBuckets cs = (1 ≤ length cs) × ((length cs < 2 ^ 32) × IsInPlace (length cs) 0 cs)

-- no two of the claims are on one name
abbrev pub AreDistinct : List Claim → Type 0
AreDistinct [] = Unit {0}
AreDistinct (c ∷ cs) = (mode_in cs c.name ≡ None) × AreDistinct cs
