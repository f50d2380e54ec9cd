-- A member that fails, and a group that begins.
use Rattle.std.specs.Prelude.{◌≡◌, ◌≢◌, ℕ, ◌≤◌, [], ◌∷◌, length, None}
use Rattle.ds_base.specs.Ids.{IsMember}
use Rattle.lock_structure.specs.Locks.{Locks, HasFailed, empty_locks}
use Rattle.list_structure.specs.States.{ListsState, IsNew}
use Rattle.facility.specs.States.{ListsFailed}
use Rattle.lock_protocol.specs.Machine.{World, start}
use Rattle.lock_protocol.specs.Moves.{Fail, GroupFail}
use Rattle.lock_world.specs.Tied.{Claims, Tied, Moved}

-- the member knows of no claims any more; what others know stays
pub record Forgets (held left : Claims) (m : ℕ) : Type 0 where
  pub empty : (o c : ℕ) → left m o c ≡ None
  pub others : (k o c : ℕ) → k ≢ m → left k o c ≡ held k o c

-- recorded claims become retained: they stay in the world, behind their records
abbrev pub FailsMoves : Type 0
FailsMoves = (w : World) (locks after : Locks) (lists now : ListsState) (held left : Claims) (m : ℕ)
    → Tied w locks lists held → IsMember m → lists.members ≤ 32 → HasFailed locks m after → ListsFailed lists m now → Forgets held left m
    → Moved w (Fail m ∷ []) locks after now left

abbrev pub KnowsNone : Claims → Type 0
KnowsNone held = (k o c : ℕ) → held k o c ≡ None

-- nothing was ever granted or asked
abbrev pub StartsTied : Type 0
StartsTied = (entries records pages agents : ℕ) (lists : ListsState) (held : Claims)
    → lists.members ≤ 32 → IsNew lists lists.members agents → KnowsNone held → Tied start (empty_locks entries records pages) lists held

-- the whole group has failed, and begins anew
abbrev pub BeginsAnew : Type 0
BeginsAnew = (w : World) (before : Locks) (records pages agents : ℕ) (lists : ListsState) (held : Claims)
    → lists.members ≤ 32 → IsNew lists lists.members agents → KnowsNone held → Moved w (GroupFail ∷ []) before (empty_locks (length before.entries) records pages) lists held
