-- The events of a member that is up, in its group.
use Rattle.std.specs.Prelude.{◌≡◌, ◌≢◌, ℕ, Some, length, slice_get}
use Rattle.list_structure.specs.declared.standing.MemberStatus.TheVariants.{Up}
use Rattle.list_structure.specs.Standings.{status_of}
use Rattle.member_resources.specs.Events.{Drive}
use Rattle.group_member.specs.declared.stepped.Stepped.{Stepped}
use Rattle.group_member.specs.Happening.{Steps}
use Rattle.group_member.specs.Members.{Member}
use Rattle.group_core.specs.Given.{CrewState}
use Rattle.lock_protocol.specs.Machine.{World}
use Rattle.group_locks.specs.Events.{Moves, OfMember}
use Rattle.group_locks.specs.Stands.{LocksTied}

-- The member at this place is up, and has made an event in which it didn't fail. No other has changed.
pub record StepsAt (old new : CrewState) (at : ℕ) (m n : Member) : Type 0 where
  pub had : slice_get old.members at ≡ Some m
  pub has : slice_get new.members at ≡ Some n
  pub count : length new.members ≡ length old.members
  pub others : (k : ℕ) → k ≢ at → slice_get new.members k ≡ slice_get old.members k
  pub sizes : new.sizes ≡ old.sizes
  pub up : status_of old.facility.lists.statuses m.id ≡ Up
  pub drive : Drive
  pub left : Drive
  pub place : ℕ
  pub stepped : Stepped
  pub steps : Steps m (record { facility = old.facility; drive = drive }) old.fates place stepped n (record { facility = new.facility; drive = left }) new.fates

abbrev pub MemberStepsMoves : Type 0
MemberStepsMoves = (old new : CrewState) (at : ℕ) (m n : Member) (w : World) → LocksTied old w → StepsAt old new at m n → Moves (OfMember m.id) old new w
