-- The claims of a member that has failed, as they are handed on to the rollbacks that its transactions are from then on.
use Rattle.std.specs.Prelude.{◌≡◌, ◌≢◌, ℕ, ◌≤◌, false, None}
use Rattle.list_structure.specs.Standings.{is_live, status_of}
use Rattle.group_core.specs.Given.{CrewState}
use Rattle.lock_protocol.specs.Machine.{World}
use Rattle.group_locks.specs.Events.{Moves, OfMember}
use Rattle.group_locks.specs.Stands.{LocksTied}

-- as long as the member isn't live again, this is a move that changes nothing in the group
abbrev pub HandsOnMoves : Type 0
HandsOnMoves = (s : CrewState) (w : World) (m owner to : ℕ)
    → LocksTied s w → 1 ≤ m → m ≤ s.facility.lists.members → is_live (status_of s.facility.lists.statuses m) ≡ false → owner ≢ 0 → owner ≢ to → ((c : ℕ) → w.claims m to c ≡ None)
    → Moves (OfMember m) s s w
