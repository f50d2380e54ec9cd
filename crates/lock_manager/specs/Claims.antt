-- The claims of one owner: which names it holds in which modes.
use Rattle.std.specs.Prelude.{ℕ, Bool, true, false, not, ◌&&◌, ◌||◌, ◌==◌, if◌then◌else◌, Option, Some, None, is_some, List, [], ◌∷◌}
use Rattle.ds_model.specs.declared.lock.Name.{Name}
use Rattle.lock_names.specs.declared.mode.Mode.{Mode}
use Rattle.lock_names.specs.declared.mode.Class.{Class}
use Rattle.lock_names.specs.declared.mode.Class.TheVariants.{Share, Exclusive}
use Rattle.lock_names.specs.Modes.{join_of, are_compatible, is_covering, class_of}
use Rattle.lock_names.specs.Entries.{entry_number}
use Rattle.lock_names.specs.Names.{same_name}
use Rattle.lock_manager.specs.declared.claim.Claim.{Claim}

-- the mode in which the owner of these claims holds the name
abbrev pub mode_in : List Claim → Name → Option Mode
mode_in [] n = None
mode_in (c ∷ cs) n = if same_name c.name n then Some c.mode else mode_in cs n

-- the claims without the one on the name
abbrev pub without : List Claim → Name → List Claim
without [] n = []
without (c ∷ cs) n = if same_name c.name n then cs else c ∷ without cs n

-- the claims with this mode in the one on the name
abbrev pub with_mode : List Claim → Name → Mode → List Claim
with_mode [] n m = []
with_mode (c ∷ cs) n m = if same_name c.name n then record { name = c.name; mode = m } ∷ cs else c ∷ with_mode cs n m

-- the claims with one in this mode: that on the name, where it is, or else a new one before the others
abbrev pub entered : List Claim → Name → Mode → List Claim
entered cs n m = if is_some (mode_in cs n) then with_mode cs n m else record { name = n; mode = m } ∷ cs

-- the mode of an owner that holds the one and needs the other
abbrev pub joined : Option Mode → Mode → Mode
joined None m = m
joined (Some held) m = join_of held m

-- the join of two modes where both are held
abbrev pub joined_both : Option Mode → Option Mode → Option Mode
joined_both a None = a
joined_both a (Some b) = Some (joined a b)

-- whether what is held covers the mode
abbrev pub is_covered : Option Mode → Mode → Bool
is_covered None m = false
is_covered (Some held) m = is_covering held m

-- whether what another owner holds is in the way of the mode
abbrev pub is_in_way : Option Mode → Mode → Bool
is_in_way None m = false
is_in_way (Some held) m = not (are_compatible held m)

unfoldable pub same_class : Class → Class → Bool
same_class Share Share = true
same_class Exclusive Exclusive = true
same_class _ _ = false

-- whether the claim is of this class and falls on this entry of the lock table
abbrev pub needs : ℕ → ℕ → Class → Claim → Bool
needs entries entry class c = (entry_number c.name entries == entry) && same_class (class_of c.mode) class

-- whether one of the claims does
abbrev pub one_needs : ℕ → ℕ → Class → List Claim → Bool
one_needs entries entry class [] = false
one_needs entries entry class (c ∷ cs) = needs entries entry class c || one_needs entries entry class cs
