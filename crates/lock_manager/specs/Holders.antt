-- The claims of several owners, one list an owner.
use Rattle.std.specs.Prelude.{ℕ, ◌+◌, Bool, false, not, ◌&&◌, ◌||◌, ◌==◌, if◌then◌else◌, Option, Some, None, is_some, List, [], ◌∷◌, length, slice_set}
use Rattle.ds_model.specs.declared.lock.Name.{Name}
use Rattle.lock_names.specs.declared.mode.Mode.{Mode}
use Rattle.lock_names.specs.declared.mode.Class.{Class}
use Rattle.lock_names.specs.declared.mode.Class.TheVariants.{Share, Exclusive}
use Rattle.lock_names.specs.declared.mode.Interest.{Interest}
use Rattle.lock_names.specs.Entries.{entry_number}
use Rattle.lock_manager.specs.declared.claim.Claim.{Claim}
use Rattle.lock_manager.specs.Claims.{mode_in, joined_both, is_in_way, one_needs}

abbrev pub is_owner : Option ℕ → ℕ → Bool
is_owner None k = false
is_owner (Some owner) k = k == owner

-- the first of these owners, who are counted from k on, that holds the name in a mode that is in the way; the asker's own claim never is
abbrev pub first_in_way : List (List Claim) → ℕ → Option ℕ → Name → Mode → Option ℕ
first_in_way [] k asker n m = None
first_in_way (cs ∷ rest) k asker n m = if not (is_owner asker k) && is_in_way (mode_in cs n) m then Some k else first_in_way rest (k + 1) asker n m

-- the join of this mode and of all in which these owners hold the name
abbrev pub mode_of_all : Option Mode → List (List Claim) → Name → Option Mode
mode_of_all held [] n = held
mode_of_all held (cs ∷ rest) n = mode_of_all (joined_both held (mode_in cs n)) rest n

-- whether one of these owners holds the name
abbrev pub is_held : List (List Claim) → Name → Bool
is_held [] n = false
is_held (cs ∷ rest) n = is_some (mode_in cs n) || is_held rest n

-- whether a claim of one of these owners is of this class and falls on this entry of the lock table
abbrev pub any_needs : ℕ → ℕ → Class → List (List Claim) → Bool
any_needs entries entry class [] = false
any_needs entries entry class (cs ∷ rest) = one_needs entries entry class cs || any_needs entries entry class rest

-- the interest in the entry that these claims need
abbrev pub kept : ℕ → List (List Claim) → ℕ → Interest
kept entries holders entry = record { share = any_needs entries entry Share holders; exclusive = any_needs entries entry Exclusive holders }

-- ---- An owner gives up its claims one by one, in their order, up to the first whose name then nobody here holds.

-- that name, where `cs` are the claims that the owner has left
abbrev pub first_freed : List (List Claim) → ℕ → List Claim → Option Name
first_freed holders owner [] = None
first_freed holders owner (c ∷ cs) = if is_held (slice_set holders owner cs) c.name then first_freed holders owner cs else Some c.name

-- the claims that the owner then has left
abbrev pub left_after : List (List Claim) → ℕ → List Claim → List Claim
left_after holders owner [] = []
left_after holders owner (c ∷ cs) = if is_held (slice_set holders owner cs) c.name then left_after holders owner cs else cs

-- the name with the interest that is kept in its entry
abbrev pub told : ℕ → List (List Claim) → Option Name → Option (Name × Interest)
told entries holders None = None
told entries holders (Some n) = Some (n, kept entries holders (entry_number n entries))

-- how many claims there are
abbrev pub total : List (List Claim) → ℕ
total [] = 0
total (cs ∷ rest) = length cs + total rest
