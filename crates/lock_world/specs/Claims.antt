-- The moves of claims that ask nothing of the facility, and the restart of a member.
use Rattle.std.specs.Prelude.{◌≡◌, ◌≢◌, ℕ, ◌≤◌, Bool, true, false, if◌then◌else◌, [], ◌∷◌, None}
use Rattle.ds_base.specs.Ids.{IsMember}
use Rattle.ds_model.specs.declared.lock.Name.{Name}
use Rattle.lock_names.specs.declared.mode.Mode.{Mode}
use Rattle.lock_structure.specs.Locks.{Locks}
use Rattle.list_structure.specs.declared.standing.MemberStatus.TheVariants.{Restarting}
use Rattle.list_structure.specs.Standings.{status_of}
use Rattle.list_structure.specs.States.{ListsState}
use Rattle.lock_protocol.specs.Machine.{World, Covers}
use Rattle.lock_protocol.specs.Moves.{Local, GiveUp, Restart}
use Rattle.lock_protocol.specs.Sound.{Sound}
use Rattle.lock_world.specs.Numbers.{number}
use Rattle.lock_world.specs.Views.{entry_in, is_live_in}
use Rattle.lock_world.specs.Tied.{Claims, Tied, Moved}
use Rattle.lock_world.specs.Grants.{EntersIf, MayEnter}

-- a claim that one of the member covers
abbrev pub LocalMoves : Type 0
LocalMoves = (w : World) (locks : Locks) (lists : ListsState) (held left : Claims) (m owner : ℕ) (n : Name) (mode : Mode)
    → Tied w locks lists held → MayEnter lists held m owner n mode → EntersIf held left m owner n mode true → ((q : ℕ) × Covers (held m q (number n)) mode)
    → Moved w (Local m owner (number n) mode ∷ []) locks locks lists left

-- these claims of a member are gone, and no others
pub record Leaves (held left : Claims) (m : ℕ) (which : ℕ → ℕ → Bool) : Type 0 where
  pub others : (k o c : ℕ) → k ≢ m → left k o c ≡ held k o c
  pub own : (o c : ℕ) → left m o c ≡ (if which o c then None else held m o c)

abbrev pub GivesUpMoves : Type 0
GivesUpMoves = (w : World) (locks : Locks) (lists : ListsState) (held left : Claims) (m : ℕ) (which : ℕ → ℕ → Bool)
    → Tied w locks lists held → Leaves held left m which
    → Moved w (GiveUp m which ∷ []) locks locks lists left

-- a failed member restarts, with an empty lock manager
pub record Restarts (lists after : ListsState) (held left : Claims) (m : ℕ) : Type 0 where
  pub empty : (o c : ℕ) → left m o c ≡ None
  pub others : (k o c : ℕ) → k ≢ m → left k o c ≡ held k o c
  pub cells : after.cells ≡ lists.cells
  pub members : after.members ≡ lists.members
  pub status : status_of after.statuses m ≡ Restarting
  pub most : after.members ≤ 32
  pub statuses : (k : ℕ) → k ≢ m → IsMember k → status_of after.statuses k ≡ status_of lists.statuses k

abbrev pub RestartsMoves : Type 0
RestartsMoves = (w : World) (locks : Locks) (lists after : ListsState) (held left : Claims) (m : ℕ)
    → Sound (entry_in locks) w → Tied w locks lists held → IsMember m → m ≤ lists.members → is_live_in lists m ≡ false → Restarts lists after held left m
    → Moved w (Restart m ∷ []) locks locks after left
