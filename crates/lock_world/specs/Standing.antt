-- A member that is up again, and events that have no move.
use Rattle.std.specs.Prelude.{◌≡◌, ◌-◌, ℕ, ◌≤◌, Bool, [], ◌∷◌, slice_set, is_none, length}
use Rattle.ds_base.specs.Ids.{IsMember}
use Rattle.lock_structure.specs.Locks.{Locks}
use Rattle.list_structure.specs.declared.standing.MemberStatus.TheVariants.{Up, Restarting}
use Rattle.list_structure.specs.Standings.{status_of}
use Rattle.list_structure.specs.States.{ListsState}
use Rattle.lock_protocol.specs.Machine.{World}
use Rattle.lock_protocol.specs.Moves.{GiveUp}
use Rattle.lock_world.specs.Tied.{Claims, Tied, Moved}

-- the claims of which the member knows nothing
abbrev pub unknown : Claims → ℕ → ℕ → ℕ → Bool
unknown held m o c = is_none (held m o c)

-- its restart is over: what is left of the claims of its failure, but for those that it knows of, is given up
abbrev pub RisesMoves : Type 0
RisesMoves = (w : World) (locks : Locks) (lists now : ListsState) (held : Claims) (m : ℕ)
    → Tied w locks lists held → IsMember m → lists.members ≤ 32 → status_of lists.statuses m ≡ Restarting
    → now.cells ≡ lists.cells → now.members ≡ lists.members → now.statuses ≡ slice_set lists.statuses (m - 1) Up
    → Moved w (GiveUp m (unknown held m) ∷ []) locks locks now held

-- what no move changes: the lists' other parts, and how the claims are told
pub record Stays (lists now : ListsState) (held left : Claims) : Type 0 where
  pub cells : now.cells ≡ lists.cells
  pub statuses : now.statuses ≡ lists.statuses
  pub members : now.members ≡ lists.members
  pub claims : (k o c : ℕ) → left k o c ≡ held k o c

abbrev pub StaysTied : Type 0
StaysTied = (w : World) (locks : Locks) (lists now : ListsState) (held left : Claims)
    → Tied w locks lists held → Stays lists now held left → Moved w [] locks locks now left
