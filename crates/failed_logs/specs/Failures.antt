-- The failure of a member of a group, and the rows that its transactions had locked.
use Rattle.std.specs.Prelude.{◌≡◌, ◌≢◌, ℕ}
use Rattle.ds_model.specs.Rows.{Spot}
use Rattle.list_structure.specs.declared.standing.MemberStatus.TheVariants.{Up}
use Rattle.list_structure.specs.Standings.{status_of}
use Rattle.group_member.specs.Members.{Member}
use Rattle.group_locks.specs.Given.{CrewState}
use Rattle.lock_protocol.specs.Machine.{World}
use Rattle.lock_world.specs.Views.{rollback_owner}
use Rattle.log_numbers.specs.Numbers.{AreCounted}
use Rattle.failed_claims.specs.Given.{HasLocked}
use Rattle.failed_claims.specs.Failing.{HoldsRow}
use Rattle.group_locks.specs.Events.{Moves, OfMember}
use Rattle.group_locks.specs.Stands.{LocksTied}
use Rattle.group_locks.specs.Whole.{FailsAt}

-- Moves of the member lead to a world beside which the group still stands; there each row that a transaction of the member had locked is claimed
-- by its rollback.
pub record RowsClaimed (old new : CrewState) (w : World) (m : Member) : Type 0 where
  pub moves : Moves (OfMember m.id) old new w
  pub rows : (id : ℕ) (spot : Spot) → id ≢ 0 → HasLocked m.holds.marks id spot → HoldsRow moves.world m.id (rollback_owner id) spot

-- Where a member that is up has failed. No number names two of its transactions in the log.
abbrev pub UpHandsOver : Type 0
UpHandsOver = (old new : CrewState) (at counter : ℕ) (m n : Member) (w : World)
    → LocksTied old w → FailsAt old new at m n → status_of old.facility.lists.statuses m.id ≡ Up → AreCounted counter m.holds.marks → RowsClaimed old new w m

-- and each row that an owner had claimed in the world still is
pub record ClaimsKept (old new : CrewState) (w : World) (m : Member) : Type 0 where
  pub claimed : RowsClaimed old new w m
  pub kept : (owner : ℕ) (spot : Spot) → HoldsRow w m.id owner spot → HoldsRow claimed.moves.world m.id owner spot

-- Where it isn't up: it restarts, or is down.
abbrev pub DownHandsOver : Type 0
DownHandsOver = (old new : CrewState) (at : ℕ) (m n : Member) (w : World)
    → LocksTied old w → FailsAt old new at m n → status_of old.facility.lists.statuses m.id ≢ Up → ClaimsKept old new w m
