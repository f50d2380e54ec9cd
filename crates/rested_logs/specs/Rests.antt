-- The logs of a group's members where a group restart begins, and behind one that is done.
use Rattle.std.specs.Prelude.{◌≡◌, ℕ, ◌+◌, List, [], length, None, Some, Ok, slice_get}
use Rattle.ds_disk.specs.Contents.{Contents, log_of}
use Rattle.log_record.specs.declared.log.Log.{Log}
use Rattle.sound_disk.specs.Whole_logs.{AreWholeLogs}
use Rattle.group_restart.specs.declared.calls.State.TheVariants as state
use Rattle.group_restart.specs.Machine.{Restart}
use Rattle.disk_restart.specs.Ends.{EndsBehind}
use Rattle.restart_soundness.specs.Closing.{ClosesAll}
use Rattle.restart_soundness.specs.Left_out.{LeavesOutClosed}
use Rattle.restart_soundness.specs.Runs.{IsLeft}
use Rattle.lock_protocol.specs.Machine.{World}
use Rattle.claimed_logs.specs.Given.{BeginsAnew, CrewState, LocksTied}
use Rattle.claimed_logs.specs.Courses.{LeavesAlike}
use Rattle.claimed_logs.specs.Logs.{LogBelow, LogCloses, LogsClaimed}
use Rattle.claimed_logs.specs.Taken.{LogsStand}

-- ---- where a group restart begins

-- a disk each log of which leaves the same open wherever reading may begin
abbrev pub AlikeLeaveClosed : Type 0
AlikeLeaveClosed = (c : Contents) (logs : List Log) → AreWholeLogs 1 c.logs logs → ((at : ℕ) → LeavesAlike (log_of c.logs (at + 1))) → LeavesOutClosed c

-- a log of which no member of the group is there leaves nothing open, as an empty one does
abbrev pub OthersClose : Contents → CrewState → Type 0
OthersClose c s = (at : ℕ) → slice_get s.members at ≡ None → LogCloses (log_of c.logs (at + 1))

-- so the disk that a group leaves is one whose logs close what need not be read of them
abbrev pub GroupsLeaveClosed : Type 0
GroupsLeaveClosed = (c : Contents) (s : CrewState) (w : World) (logs : List Log) → AreWholeLogs 1 c.logs logs → LocksTied s w → LogsClaimed c s w → OthersClose c s → LeavesOutClosed c

-- and so is one with empty logs, which leave nothing open
abbrev pub EmptyCloses : Type 0
EmptyCloses = LogCloses []

abbrev pub EmptyLeaveClosed : Type 0
EmptyLeaveClosed = (c : Contents) → ((at : ℕ) → log_of c.logs (at + 1) ≡ []) → LeavesOutClosed c

-- ---- behind one that is done

abbrev pub ClosingCloses : Type 0
ClosingCloses = (log : List ℕ) → ClosesAll log → LogCloses log

-- each log leaves nothing open
abbrev pub RestsLogged : Type 0
RestsLogged = (c d : Contents) (counter : ℕ) → length c.logs ≡ length d.logs → LeavesOutClosed c → IsLeft (Ok (state.Done counter)) c d → (at : ℕ) → LogCloses (log_of d.logs (at + 1))

-- The logs of a group that begins anew stand beside its world of locks, and those of which no member is there leave nothing open.
pub record StandsAnew (d : Contents) (s : CrewState) (w : World) : Type 0 where
  pub logs : LogsStand d s w
  pub others : OthersClose d s

-- if no record names its transaction by a number above the counter
abbrev pub GroupsStandAnew : Type 0
GroupsStandAnew = (c d : Contents) (counter : ℕ) (restart : Restart) (old new : CrewState) (w : World)
    → LocksTied new w → BeginsAnew counter old new → old.restart ≡ Some restart → EndsBehind restart d → length c.logs ≡ 32 → length d.logs ≡ 32
    → LeavesOutClosed c → IsLeft (Ok (state.Done counter)) c d → ((at : ℕ) → LogBelow new.facility.counter (log_of d.logs (at + 1))) → StandsAnew d new w
