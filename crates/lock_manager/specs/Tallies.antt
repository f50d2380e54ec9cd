-- How many claims of each class fall on each entry of the lock table.
use Rattle.std.specs.Prelude.{◌≡◌, ℕ, ◌+◌, ◌<◌, ◌≤◌, ◌^◌, if◌then◌else◌, Option, Some, None, List, [], ◌∷◌, slice_index_or}
use Rattle.ds_model.specs.declared.lock.Name.{Name}
use Rattle.lock_names.specs.declared.mode.Mode.{Mode}
use Rattle.lock_names.specs.declared.mode.Class.{Class}
use Rattle.lock_names.specs.declared.mode.Class.TheVariants.{Share, Exclusive}
use Rattle.lock_manager.specs.declared.claim.Claim.{Claim}
use Rattle.record_area.specs.Areas.{Room}
use Rattle.lock_manager.specs.Claims.{needs}

pub record Tallied : Type 0 where
  pub entries : ℕ  -- the size of the lock table
  pub share : List ℕ  -- the claims of class Share of each entry
  pub exclusive : List ℕ  -- those of class Exclusive

abbrev pub counts_of : Tallied → Class → List ℕ
counts_of t Share = t.share
counts_of t Exclusive = t.exclusive

-- the claims of the class that the tally has for the entry
abbrev pub tallied : Tallied → Class → ℕ → ℕ
tallied t class entry = slice_index_or (counts_of t class) entry 0

-- 1 where the claim is of this class and falls on this entry, else 0
abbrev pub counted : ℕ → ℕ → Class → Claim → ℕ
counted entries entry class c = if needs entries entry class c then 1 else 0

abbrev pub counted_mode : ℕ → ℕ → Class → Name → Option Mode → ℕ
counted_mode entries entry class n None = 0
counted_mode entries entry class n (Some m) = counted entries entry class (record { name = n; mode = m })

-- how many of the claims are of this class and fall on this entry
abbrev pub count_in : ℕ → ℕ → Class → List Claim → ℕ
count_in entries entry class [] = 0
count_in entries entry class (c ∷ cs) = counted entries entry class c + count_in entries entry class cs

abbrev pub count_of_all : ℕ → ℕ → Class → List (List Claim) → ℕ
count_of_all entries entry class [] = 0
count_of_all entries entry class (cs ∷ rest) = count_in entries entry class cs + count_of_all entries entry class rest

-- the tally is that of these claims
abbrev pub IsTally : ℕ → List (List Claim) → Tallied → Type 0
IsTally entries hs t = (t.entries ≡ entries) × ((class : Class) (entry : ℕ) → tallied t class entry ≡ count_of_all entries entry class hs)

-- the claims are tallied, and they are so few that no count overflows: the rooms are those of slot 0 and of the other owners
pub record IsCounted (entries : ℕ) (hs : List (List Claim)) (own_room others_room : Room) (t : Tallied) : Type 0 where
  pub tally : IsTally entries hs t
  pub own : own_room.size < 2 ^ 32
  pub others : others_room.size ≤ 2 ^ 62
