-- A member fails, whose log on disk is as it was, but for what the call has done that failed.
use Rattle.std.specs.Prelude.{◌≡◌, ◌≢◌, ◌⊎◌, ℕ, ◌+◌, ◌++◌, true, false, List, [], take}
use Rattle.ds_disk.specs.Contents.{Contents, log_of}
use Rattle.list_structure.specs.declared.standing.MemberStatus.TheVariants.{Up}
use Rattle.list_structure.specs.Standings.{status_of}
use Rattle.lock_protocol.specs.Machine.{World}
use Rattle.failed_logs.specs.Given.{Member}
use Rattle.group_core.specs.Given.{CrewState}
use Rattle.failed_logs.specs.Logs.{LogClaimed}
use Rattle.failed_logs.specs.Given.{Moves, OfMember}
use Rattle.failed_logs.specs.Given.{LocksTied}
use Rattle.failed_logs.specs.Given.{FailsAt}
use Rattle.group_logs.specs.Logs.{OneGoes}
use Rattle.log_appends.specs.Rests.{IsRest}
use Rattle.member_marks.specs.State.{MarksState}
use Rattle.restart_marks.specs.State.{RestartState}
use Rattle.log_reader.specs.Keeping.{AreWhole}
use Rattle.restart_closing.specs.Closing.{ListedBelow}
use Rattle.failed_logs.specs.Given.{LogLocked}
use Rattle.claimed_logs.specs.Courses.{LeavesAlike, RestartOpen, StandsAlike}
use Rattle.claimed_logs.specs.Logs.{LogBelow, LogsClaimed, RestartLogged}

-- moves of the member lead to a world in which the logs have their claims
pub record MovesLogged (d : Contents) (old new : CrewState) (w : World) (m : Member) : Type 0 where
  pub moves : Moves (OfMember m.id) old new w
  pub logs : LogsClaimed d new moves.world

-- ---- one that was up

-- so much of its log buffer is on disk
abbrev pub HasFront : Member → List ℕ → List ℕ → Type 0
HasFront m old new = (n : ℕ) × (new ≡ old ++ take n m.holds.marks.log.pending)

abbrev pub UpFailsLogged : Type 0
UpFailsLogged = (c d : Contents) (old new : CrewState) (at : ℕ) (m n : Member) (w : World)
    → LocksTied old w → FailsAt old new at m n → status_of old.facility.lists.statuses m.id ≡ Up → OneGoes (at + 1) (HasFront m) c d → LogsClaimed c old w → MovesLogged d old new w m

-- ---- one that restarts

abbrev pub AnyBytes : List ℕ → List ℕ → Type 0
AnyBytes old new = Unit {0}

-- what the log leaves open has its claims, and that is the same wherever reading may begin
pub record LeftClaimed (log : List ℕ) (w : World) (member : ℕ) : Type 0 where
  pub claimed : LogClaimed log w member
  pub leaves : LeavesAlike log

-- where its restart hasn't handed over, and has left the log as it was, or has put so many bytes of its log buffer behind the whole records
abbrev pub RestartsStop : Type 0
RestartsStop = (whole rest left : List ℕ) (w : World) (s : RestartState) (own : MarksState)
    → RestartLogged (whole ++ rest) w s → s.is_up ≡ false → StandsAlike whole → RestartOpen whole rest s own
    → (left ≡ whole ++ rest) ⊎ ((s.own.is_read ≡ true) × (n : ℕ) × (left ≡ whole ++ take n s.log.pending)) → LeftClaimed left w s.member

-- No number by which its records name transactions is above this one still,
abbrev pub StopsBelow : Type 0
StopsBelow = (whole rest left : List ℕ) (n : ℕ) (s : RestartState) (own : MarksState) → RestartOpen whole rest s own → LogBelow n (whole ++ rest) → ListedBelow n s.trans.list
    → (left ≡ whole ++ rest) ⊎ ((s.own.is_read ≡ true) × (k : ℕ) × (left ≡ whole ++ take k s.log.pending)) → LogBelow n left

-- nor where the rest behind its whole records is cut off
abbrev pub HandedBelow : Type 0
HandedBelow = (whole rest : List ℕ) (n : ℕ) → AreWhole whole → IsRest rest → LogBelow n (whole ++ rest) → LogBelow n whole

abbrev pub RestartFailsLogged : Type 0
RestartFailsLogged = (c d : Contents) (old new : CrewState) (at : ℕ) (m n : Member) (w : World)
    → LocksTied old w → FailsAt old new at m n → status_of old.facility.lists.statuses m.id ≢ Up → OneGoes (at + 1) AnyBytes c d → LeftClaimed (log_of d.logs (at + 1)) w m.id
    → LogBelow old.facility.counter (log_of d.logs (at + 1)) → LogsClaimed c old w → MovesLogged d old new w m

-- where it has, and the log has the whole records whose rows are locked, and then a rest that is none
abbrev pub HandedFailsLogged : Type 0
HandedFailsLogged = (c d : Contents) (old new : CrewState) (at : ℕ) (m n : Member) (w : World) (whole rest : List ℕ)
    → LocksTied old w → FailsAt old new at m n → status_of old.facility.lists.statuses m.id ≢ Up → OneGoes (at + 1) AnyBytes c d → log_of d.logs (at + 1) ≡ whole ++ rest
    → IsRest rest → StandsAlike whole → LogLocked whole [] m.holds.marks → LogBelow old.facility.counter (log_of d.logs (at + 1)) → LogsClaimed c old w → MovesLogged d old new w m
