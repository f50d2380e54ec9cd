-- The events that befall a whole group, and the failure of one of its members.
use Rattle.std.specs.Prelude.{◌≡◌, ◌≢◌, ℕ, length, Some, slice_get}
use Rattle.facility.specs.States.{MemberFailed}
use Rattle.group_member.specs.Members.{IsDown, Member}
use Rattle.group_core.specs.Given.{BeginsAnew, GroupFails}
use Rattle.group_core.specs.Given.{CrewState}
use Rattle.lock_protocol.specs.Machine.{World}
use Rattle.group_locks.specs.Events.{Moves, OfGroup, OfMember}
use Rattle.group_locks.specs.Stands.{LocksTied}

-- a failure of the group changes no locks until its restart is done
abbrev pub GroupFailsTied : Type 0
GroupFailsTied = (old new : CrewState) (w : World) → GroupFails old new → LocksTied old w → LocksTied new w

-- and then the world begins anew
abbrev pub AnewMoves : Type 0
AnewMoves = (old new : CrewState) (counter : ℕ) (w : World) → LocksTied old w → BeginsAnew counter old new → Moves OfGroup old new w

-- The member at this place has failed, and keeps its number. No other has changed.
pub record FailsAt (old new : CrewState) (at : ℕ) (m n : Member) : Type 0 where
  pub had : slice_get old.members at ≡ Some m
  pub has : slice_get new.members at ≡ Some n
  pub count : length new.members ≡ length old.members
  pub others : (k : ℕ) → k ≢ at → slice_get new.members k ≡ slice_get old.members k
  pub same : n.id ≡ m.id
  pub down : IsDown old.sizes n
  pub failed : MemberFailed old.facility m.id new.facility
  pub sizes : new.sizes ≡ old.sizes

abbrev pub MemberFailsMoves : Type 0
MemberFailsMoves = (old new : CrewState) (at : ℕ) (m n : Member) (w : World) → LocksTied old w → FailsAt old new at m n → Moves (OfMember m.id) old new w
