-- The failure of the whole group, and what the group restart that follows it leaves.
use Rattle.std.specs.Prelude.{◌≡◌, ℕ, zero, suc, ◌+◌, ◌-◌, ◌^◌, min, Bool, All, map, Option, Some, None, IsSomeAnd, slice_get}
use Rattle.ds_disk.specs.Contents.{Contents}
use Rattle.ds_model.specs.declared.script.Phase.{Phase}
use Rattle.ds_model.specs.declared.script.Script.{Script}
use Rattle.facility.specs.States.{IsReset}
use Rattle.script_fates.specs.Fated.{FatesState, StopsOnly, is_in_phase}
use Rattle.group_restart.specs.Course.{IsBegun}
use Rattle.group_restart.specs.Disk.{Drive}
use Rattle.group_member.specs.Members.{IsDown, Member}
use Rattle.group_crew.specs.Ends.{AreEndsIn}
use Rattle.group_crew.specs.States.{CrewState}

-- ---- the failure

-- the last phase that has begun
abbrev pub last_begun : Script → ℕ → Option Phase
last_begun script zero = None
last_begun script (suc at) = slice_get script.phases at

-- of its transactions some are stopped, and no others; before the first phase none is
abbrev pub StopsLast : Option Phase → FatesState → FatesState → Type 0
StopsLast None old new = new ≡ old
StopsLast (Some phase) old new = StopsOnly (is_in_phase phase) old new

-- The group has failed: its restart is in hand, and nothing is read yet. The facility and the members stay as they were until it is done.
pub record GroupFails (old new : CrewState) : Type 0 where
  pub restart : IsSomeAnd new.restart IsBegun
  pub stopped : StopsLast (last_begun old.script old.begun) old.fates new.fates
  pub rest : new ≡ record old { restart = new.restart; fates = new.fates }

-- the script has let it fail once more
abbrev pub fail_counted : CrewState → CrewState
fail_counted s = record s { groupfails = min (s.groupfails + 1) (2 ^ 32 - 1) }

-- ---- the group restart

-- whether the disk answers, and what it holds where it tells
abbrev pub drive_of : {D : Type 0} → (D → Bool) → (D → Option Contents) → D → Drive
drive_of alive contents disk = record { alive = alive disk; contents = contents disk }

abbrev pub id_of : Member → ℕ
id_of m = m.id

-- The group restart is done, with this counter. The facility is as it was made, no member holds anything, and each knows where the logs end
-- behind it.
pub record BeginsAnew (counter : ℕ) (old new : CrewState) : Type 0 where
  pub facility : IsReset old.facility counter new.facility
  pub members : All (IsDown old.sizes) new.members
  pub same : map id_of new.members ≡ map id_of old.members
  pub known : All (AreEndsIn old.restart) new.known
  pub rest : new ≡ record old { facility = new.facility; members = new.members; known = new.known; restart = None }
