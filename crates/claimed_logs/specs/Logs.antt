-- The logs of a group's members on disk, beside the world of locks beside which the group stands.
use Rattle.std.specs.Prelude.{◌≡◌, ◌≢◌, ℕ, ◌+◌, ◌^◌, ◌<◌, ◌≤◌, ◌++◌, true, false, List, [], length, Some, IfSome, slice_get}
use Rattle.std.specs.List.{AllByRecursion}
use Rattle.ds_disk.specs.Contents.{Contents, log_of}
use Rattle.ds_model.specs.RecordBytes.{log_bytes}
use Rattle.ds_model.specs.declared.log.LogRecord.{LogRecord}
use Rattle.facility.specs.States.{Held as Facility}
use Rattle.list_structure.specs.declared.standing.MemberStatus.TheVariants.{Up}
use Rattle.list_structure.specs.Standings.{is_live, status_of}
use Rattle.log_reader.specs.Keeping.{AreBytes, AreWhole}
use Rattle.log_appends.specs.Appends.{AreLastFrom}
use Rattle.log_trans.specs.Courses.{open_trans}
use Rattle.log_numbers.specs.Numbers.{AreCounted, forward_in}
use Rattle.log_rows.specs.Rows.{is_closed}
use Rattle.lock_protocol.specs.Machine.{World}
use Rattle.member_marks.specs.State.{MarksState}
use Rattle.restart_marks.specs.State.{RestartState}
use Rattle.restart_law.specs.Opens.{FewNeeds, OpensStand}
use Rattle.restart_law.specs.Reads.{AreLast, ReadsTrue}
use Rattle.restart_claims.specs.Claims.{OpensClaimed}
use Rattle.restart_closing.specs.Closing.{ListedBelow}
use Rattle.failed_logs.specs.Given.{AllClosed}
use Rattle.failed_logs.specs.Given.{IsDown, Member}
use Rattle.group_core.specs.Given.{GroupFails}
use Rattle.group_core.specs.Given.{CrewState}
use Rattle.failed_logs.specs.Given.{LogLocked}
use Rattle.failed_logs.specs.Logs.{LogClaimed}
use Rattle.failed_logs.specs.Given.{LocksTied}
use Rattle.claimed_logs.specs.Commits.{commits_last}
use Rattle.claimed_logs.specs.Courses.{LeavesAlike, RestartCourse, StandsAlike}
use Rattle.claimed_logs.specs.Found.{AllOpensKnown}

-- ---- the log of a member

-- whatever front of these records is behind it, it leaves the same open wherever reading may begin, and no transaction changes a row behind its Commit
abbrev pub FrontsAlike : List ℕ → List LogRecord → Type 0
FrontsAlike log pend = (front rest : List LogRecord) → pend ≡ front ++ rest → StandsAlike (log ++ log_bytes front)

-- No number by which a record of the log names its transaction is above this one, wherever reading may begin.
abbrev pub LogBelow : ℕ → List ℕ → Type 0
LogBelow counter log = (start : ℕ) (back : List LogRecord) → AreLastFrom log start back → AllByRecursion (λ (r : LogRecord). r.tran ≤ counter) back

-- Nor is one of a record that waits; and wherever reading may begin, neither the log's last records nor those that wait close a transaction of a slot
-- that goes forward.
pub record ForwardOpen (log : List ℕ) (pend : List LogRecord) (counter : ℕ) (s : MarksState) : Type 0 where
  pub below : AllByRecursion (λ (r : LogRecord). r.tran ≤ counter) pend
  pub unclosed : (start : ℕ) (back : List LogRecord) → AreLastFrom log start back → (id : ℕ) → id ≢ 0 → is_closed (back ++ pend) id ≡ true → forward_in s.trans id ≡ 0

-- that of one that is up: wherever reading may begin, the rows of the log and of the log buffer are locked, or closed on disk
pub record UpLogged (log : List ℕ) (counter : ℕ) (s : MarksState) : Type 0 where
  pub pend : List LogRecord
  pub locked : LogLocked log pend s
  pub counted : AreCounted counter s
  pub alike : FrontsAlike log pend
  pub forward : ForwardOpen log pend counter s

-- That of one that restarts: as long as its restart hasn't read it, it has the bytes that the restart reads. What they leave open can be counted
-- with 64 bits.
pub record RestartLogged (log : List ℕ) (w : World) (s : RestartState) : Type 0 where
  pub bytes : List ℕ
  pub are : AreBytes bytes
  pub few : (records : List LogRecord) → AreLast bytes records → FewNeeds records
  pub brief : (records : List LogRecord) → AreLast bytes records → length (open_trans records) < 2 ^ 64
  pub stands : OpensStand s
  pub reads : ReadsTrue bytes s
  pub claimed : OpensClaimed bytes w s
  pub unread : s.own.is_read ≡ false → bytes ≡ log
  pub counts : length s.trans.list < 2 ^ 64

-- that of one that isn't live: what it leaves open has its claims, and the member itself has no transaction, and no record that waits
pub record DownLogged (log : List ℕ) (w : World) (k : ℕ) (s : MarksState) : Type 0 where
  pub claimed : LogClaimed log w k
  pub leaves : LeavesAlike log
  pub idle : LogLocked [] [] s

-- By its standing. No number that names a transaction of it, or of its log, or of its restart, is above the counter, nor does one of the member's own
-- name two.
pub record MemberLogged (f : Facility) (w : World) (k : ℕ) (log : List ℕ) (m : Member) : Type 0 where
  pub up : status_of f.lists.statuses k ≡ Up → UpLogged log f.counter m.holds.marks
  pub restarts : IfSome m.restart (λ q. RestartLogged log w q.resources.marks)
  pub course : IfSome m.restart (λ q. RestartCourse log q.resources.marks m.holds.marks)
  pub down : is_live (status_of f.lists.statuses k) ≡ false → DownLogged log w k m.holds.marks
  pub counted : AreCounted f.counter m.holds.marks
  pub below : LogBelow f.counter log
  pub names : IfSome m.restart (λ q. ListedBelow f.counter q.resources.marks.trans.list)

-- ---- those of all members, for each of which the disk has one

pub record LogsClaimed (c : Contents) (s : CrewState) (w : World) : Type 0 where
  pub there : length s.members ≤ length c.logs
  pub each : (at : ℕ) → IfSome (slice_get s.members at) (MemberLogged s.facility w (at + 1) (log_of c.logs (at + 1)))

-- each restart that has read its log knows then that what it has left open has its claims
abbrev pub LogsKnow : Type 0
LogsKnow = (c : Contents) (s : CrewState) (w : World) → LogsClaimed c s w → AllOpensKnown s w

-- each log leaves the same open wherever reading may begin, and no transaction changes a row behind its Commit
abbrev pub LogsLeave : Type 0
LogsLeave = (c : Contents) (s : CrewState) (w : World) → LocksTied s w → LogsClaimed c s w → (at : ℕ) → IfSome (slice_get s.members at) (λ m. LeavesAlike (log_of c.logs (at + 1)))

-- ---- where nothing is held, as at the start, and behind a group restart

-- the log is whole records, and closes all of which it has changed rows, wherever reading may begin; and none changes a row behind its Commit
pub record LogCloses (log : List ℕ) : Type 0 where
  pub whole : AreWhole log
  pub closed : (start : ℕ) (back : List LogRecord) → AreLastFrom log start back → AllClosed back
  pub commits : (start : ℕ) (back : List LogRecord) → AreLastFrom log start back → commits_last back ≡ true

-- then it leaves nothing open
abbrev pub ClosingLeaves : Type 0
ClosingLeaves = (log : List ℕ) → LogCloses log → LeavesAlike log

abbrev pub AllClose : Contents → CrewState → Type 0
AllClose c s = (at : ℕ) → IfSome (slice_get s.members at) (λ m. LogCloses (log_of c.logs (at + 1)))

abbrev pub FreshLogged : Type 0
FreshLogged = (c : Contents) (s : CrewState) (w : World)
    → LocksTied s w → ((at : ℕ) → IfSome (slice_get s.members at) (IsDown s.sizes)) → length s.members ≤ length c.logs → AllClose c s
    → ((at : ℕ) → LogBelow s.facility.counter (log_of c.logs (at + 1))) → LogsClaimed c s w

-- a failure of the group changes nothing of it
abbrev pub GroupFailsLogged : Type 0
GroupFailsLogged = (c : Contents) (old new : CrewState) (w : World) → GroupFails old new → LogsClaimed c old w → LogsClaimed c new w

-- ---- an event of the member at this place, which leaves the others as they were

pub record LeavesOthers (c d : Contents) (old new : CrewState) (w z : World) (at : ℕ) (n : Member) : Type 0 where
  pub has : slice_get new.members at ≡ Some n
  pub members : length new.members ≡ length old.members
  pub others : (k : ℕ) → k ≢ at → slice_get new.members k ≡ slice_get old.members k
  pub logs : length d.logs ≡ length c.logs
  pub left : (k : ℕ) → k ≢ at → log_of d.logs (k + 1) ≡ log_of c.logs (k + 1)
  pub counter : old.facility.counter ≤ new.facility.counter
  pub statuses : (k : ℕ) → k ≢ at → status_of new.facility.lists.statuses (k + 1) ≡ status_of old.facility.lists.statuses (k + 1)
  pub claims : (k o q : ℕ) → k ≢ at → z.claims (k + 1) o q ≡ w.claims (k + 1) o q

abbrev pub OneLogged : Type 0
OneLogged = (c d : Contents) (old new : CrewState) (w z : World) (at : ℕ) (n : Member)
    → LocksTied old w → LogsClaimed c old w → LeavesOthers c d old new w z at n → MemberLogged new.facility z (at + 1) (log_of d.logs (at + 1)) n → LogsClaimed d new z
