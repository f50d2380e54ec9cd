-- A whole search, while the index changes: each page is read in any copy that the member may have by then.
use Rattle.std.specs.Prelude.{◌≡◌, ◌≢◌, ℕ, zero, suc, ◌+◌, ◌≤◌, Bool, true, false, Option, Some, None}
use Rattle.index_protocol.specs.Index.{World, Leaf, beyond, IsThere}
use Rattle.index_protocol.specs.Whole.{WholeIndex}
use Rattle.index_protocol.specs.Search.{Go, Right, Down, Here, Nowhere, look, Reached, IsCopy, IsKnown, Later}

-- the leaf at which a search ends: at which step, and in which version
pub record Found : Type 0 where
  pub step : ℕ
  pub page : ℕ
  pub version : ℕ

abbrev pub on : Go → (ℕ → Option Found) → Found → Option Found
on (Right m) next here = next m
on (Down m) next here = next m
on Here next here = Some here
on Nowhere next here = None

unfoldable pub search_from : (ℕ → World) → (ℕ → ℕ → ℕ) → ℕ → ℕ → ℕ → ℕ → Option Found
search_from worlds copy zero i n k = None
search_from worlds copy (suc f) i n k = on
    (look ((worlds i).rest.kind n) (((worlds i).pages n).link (copy i n)) (((worlds i).pages n).entry (copy i n)) k)
    (λ m. search_from worlds copy f (suc i) m k)
    (record { step = i; page = n; version = copy i n })

-- what the member may have at each step, while it does not fail
pub record Allowed (worlds : ℕ → World) (m : ℕ) (copy : ℕ → ℕ → ℕ) : Type 0 where
  pub whole : (i : ℕ) → WholeIndex (worlds i)
  pub later : (i : ℕ) → Later m (worlds i) (worlds (suc i))
  pub copies : (i n : ℕ) → IsCopy (worlds i).rest m n ((worlds i).pages n) (copy i n)

abbrev pub IsFound : (ℕ → World) → ℕ → (ℕ → ℕ → ℕ) → ℕ → Option Found → Type 0
IsFound worlds m copy k None = ⊥
IsFound worlds m copy k (Some x) = Reached (worlds x.step).rest m k x.page × ((worlds x.step).rest.kind x.page ≡ Leaf) × (1 ≤ x.version) × (x.version ≡ copy x.step x.page)
    × (beyond (((worlds x.step).pages x.page).link x.version) k ≡ false)

-- a search from page 1 ends at a copy of a leaf that covers the key
abbrev pub SearchEnds : Type 0
SearchEnds = (worlds : ℕ → World) (m : ℕ) (copy : ℕ → ℕ → ℕ) (k : ℕ) → Allowed worlds m copy → IsThere (worlds 0).rest m 1 → IsFound worlds m copy k (search_from worlds copy (k + k + 3) 0 1 k)

abbrev pub IsPlace : (ℕ → World) → ℕ → ℕ → Option Found → Type 0
IsPlace worlds k x None = ⊥
IsPlace worlds k x (Some y) = ((worlds y.step).pages y.page).entry y.version k ≡ Some x

-- and that copy has the key's place, where the key has one when the search begins and no other member that gave it keeps it
-- from others: a searcher with a claim on the row, or on the whole table, knows this
abbrev pub SearchFinds : Type 0
SearchFinds = (worlds : ℕ → World) (m : ℕ) (copy : ℕ → ℕ → ℕ) (k x : ℕ) → Allowed worlds m copy → IsKnown (worlds 0).rest m k x
    → IsPlace worlds k x (search_from worlds copy (k + k + 3) 0 1 k)

-- ---- the claims that the locks' protocol keeps apart: by member and key, whether the member has a claim that keeps others from
-- the key's row (its own X claim on the row, or its sole use of the table's pages)
abbrev pub GiversClaim : World → (ℕ → ℕ → Bool) → Type 0
GiversClaim w keeps = (k o : ℕ) → w.rest.giver k ≡ Some o → keeps o k ≡ true

-- so a searcher whose claim on the row, or on the whole table, no other member's claim withstands finds the place
abbrev pub ClaimFinds : Type 0
ClaimFinds = (worlds : ℕ → World) (m : ℕ) (copy : ℕ → ℕ → ℕ) (keeps : ℕ → ℕ → Bool) (k x : ℕ) → Allowed worlds m copy → GiversClaim (worlds 0) keeps
    → ((o : ℕ) → o ≢ m → keeps o k ≡ false) → (worlds 0).rest.given k ≡ Some x → IsPlace worlds k x (search_from worlds copy (k + k + 3) 0 1 k)
