-- What a transaction's locks on a row and on the row's table space let it do with the row.
use Rattle.std.specs.Prelude.{◌≡◌, ◌≢◌, ℕ, Bool, true, Option, Some, None}
use Rattle.lock_names.specs.declared.mode.Mode as locks
use Rattle.lock_names.specs.declared.mode.Mode.TheVariants as lock
use Rattle.lock_names.specs.Modes.{are_compatible}
use Rattle.row_protocol.specs.Machine.{Mode, S, X}
use Rattle.row_protocol.specs.Moves.{IsAlone}

-- two transactions may have these locks of one name
abbrev pub may_both_have : Option locks.Mode → Option locks.Mode → Bool
may_both_have None b = true
may_both_have (Some m) None = true
may_both_have (Some m) (Some n) = are_compatible m n

-- by a lock on the row, which counts where the table space is locked with an intent
abbrev pub by_row : Option locks.Mode → Option Mode
by_row None = None
by_row (Some lock.X) = Some X
by_row (Some m) = Some S

abbrev pub at_most_read : Option Mode → Option Mode
at_most_read None = None
at_most_read (Some m) = Some S

abbrev pub at_least_read : Option Mode → Option Mode
at_least_read None = Some S
at_least_read (Some m) = Some m

-- by the lock on the table space and the lock on the row
abbrev pub effective : Option locks.Mode → Option locks.Mode → Option Mode
effective None row = None
effective (Some lock.IS) row = at_most_read (by_row row)
effective (Some lock.IX) row = by_row row
effective (Some lock.S) row = Some S
effective (Some lock.U) row = Some S
effective (Some lock.SIX) row = at_least_read (by_row row)
effective (Some lock.X) row = Some X

-- where no two transactions have conflicting locks, a row that one may change is no other's
abbrev pub LocksGiveAlone : Type 0
LocksGiveAlone = (space row : ℕ → ℕ → Option locks.Mode) (space_of : ℕ → ℕ)
    → ((t u s : ℕ) → t ≢ u → may_both_have (space t s) (space u s) ≡ true)
    → ((t u r : ℕ) → t ≢ u → may_both_have (row t r) (row u r) ≡ true)
    → IsAlone (λ t r. effective (space t (space_of r)) (row t r))
