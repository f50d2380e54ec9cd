-- The other events of a member whose restart is in hand: its own, in which it answers queries and asks, and those of its rebuild.
use Rattle.std.specs.Prelude.{◌≡◌, ◌≢◌, ℕ, Bool, true, false, Some, length, slice_get}
use Rattle.list_structure.specs.declared.standing.MemberStatus.TheVariants.{Restarting}
use Rattle.list_structure.specs.Standings.{status_of}
use Rattle.member_resources.specs.Events.{Drive}
use Rattle.group_member.specs.declared.stepped.Stepped.{Stepped}
use Rattle.group_member.specs.declared.stepped.Stepped.TheVariants as steps
use Rattle.group_member.specs.Happening.{Steps}
use Rattle.group_member.specs.Members.{Member}
use Rattle.group_core.specs.Given.{CrewState}
use Rattle.lock_protocol.specs.Machine.{World}
use Rattle.group_locks.specs.Events.{Moves, OfMember}
use Rattle.group_locks.specs.Stands.{LocksTied}

-- the event is that of the member's restart
abbrev pub is_restart : Stepped → Bool
is_restart (steps.Sent sent answered) = false
is_restart (steps.Restart sent answered) = true
is_restart (steps.Rebuild sent answered) = false
is_restart steps.Failed = false

-- The member at this place restarts, and has made another event than its restart's, in which it didn't fail. No other member has changed.
pub record RestingStepsAt (old new : CrewState) (at : ℕ) (m n : Member) : Type 0 where
  pub had : slice_get old.members at ≡ Some m
  pub has : slice_get new.members at ≡ Some n
  pub count : length new.members ≡ length old.members
  pub others : (k : ℕ) → k ≢ at → slice_get new.members k ≡ slice_get old.members k
  pub sizes : new.sizes ≡ old.sizes
  pub restarting : status_of old.facility.lists.statuses m.id ≡ Restarting
  pub drive : Drive
  pub left : Drive
  pub place : ℕ
  pub stepped : Stepped
  pub other : is_restart stepped ≡ false
  pub made : Steps m (record { facility = old.facility; drive = drive }) old.fates place stepped n (record { facility = new.facility; drive = left }) new.fates

-- moves of the member, which change no claim; nor does the event change a standing, or the restart
pub record RestingMoves (old new : CrewState) (w : World) (m n : Member) : Type 0 where
  pub moves : Moves (OfMember m.id) old new w
  pub claims : (k o c : ℕ) → moves.world.claims k o c ≡ w.claims k o c
  pub statuses : new.facility.lists.statuses ≡ old.facility.lists.statuses
  pub restart : n.restart ≡ m.restart

abbrev pub RestingStepsMove : Type 0
RestingStepsMove = (old new : CrewState) (at : ℕ) (m n : Member) (w : World) → LocksTied old w → RestingStepsAt old new at m n → RestingMoves old new w m n
