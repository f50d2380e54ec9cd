-- The entries of the lock table: their versions, and the interest of members.
use Rattle.std.specs.Prelude.{ℕ, ◌-◌, Bool, true, false, ◌||◌, ◌==◌}
use Rattle.std.specs.Int.{bit_at}
use Rattle.lock_names.specs.declared.mode.Class.{Class}
use Rattle.lock_names.specs.declared.mode.Class.TheVariants.{Share, Exclusive}
use Rattle.lock_names.specs.declared.mode.Interest.{Interest}
use Rattle.lock_structure.specs.declared.entry.Entry.{Entry}

-- bit m - 1 of a mask stands for member m
abbrev pub has_member : ℕ → ℕ → Bool
has_member mask m = bit_at mask (m - 1) == 1

abbrev pub interest_in : Entry → ℕ → Interest
interest_in e m = record { share = has_member e.share m; exclusive = has_member e.exclusive m }

abbrev pub blank : Entry
blank = record { version = 0; share = 0; exclusive = 0 }

abbrev pub no_interest : Interest
no_interest = record { share = false; exclusive = false }

abbrev pub with_class : Class → Interest → Interest
with_class Share i = record { share = true; exclusive = i.exclusive }
with_class Exclusive i = record { share = i.share; exclusive = true }

-- the interest of another member that is in the way of this class
unfoldable pub blocks : Class → Interest → Bool
blocks Share i = i.exclusive
blocks Exclusive i = i.share || i.exclusive
