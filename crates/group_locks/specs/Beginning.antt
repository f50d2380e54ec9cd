-- How a group begins beside the start of the world of locks.
use Rattle.std.specs.Prelude.{◌≡◌, ℕ, ◌+◌, ◌≤◌, IfSome, length, slice_get}
use Rattle.facility.specs.States.{IsMade}
use Rattle.group_member.specs.Members.{IsDown}
use Rattle.group_core.specs.Given.{CrewState}
use Rattle.lock_protocol.specs.Machine.{start}
use Rattle.group_locks.specs.Stands.{LocksTied}

-- its facility is as it is made, and its members, in the order of their numbers, hold nothing
pub record IsFresh (s : CrewState) : Type 0 where
  pub facility : IsMade s.sizes s.facility.counter s.facility
  pub members : (at : ℕ) → IfSome (slice_get s.members at) (IsDown s.sizes)
  pub numbered : (at : ℕ) → IfSome (slice_get s.members at) (λ m. m.id ≡ at + 1)
  pub count : length s.members ≡ s.facility.lists.members
  pub few : s.facility.lists.members ≤ 32
  pub agents : s.sizes.agents ≤ 16

abbrev pub StartsTied : Type 0
StartsTied = (s : CrewState) → IsFresh s → LocksTied s start
