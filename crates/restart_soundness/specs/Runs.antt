-- A whole run of a group restart over a sound disk: what it leaves, wherever it ends.
use Rattle.std.specs.Prelude.{◌≡◌, ◌≢◌, ◌⊎◌, ℕ, Bool, true, false, List, length, Option, Some, Result, IfOk}
use Rattle.std.specs.List.{AllByRecursion}
use Rattle.ds_base.specs.declared.fault.NoMemory.{NoMemory}
use Rattle.ds_base.specs.declared.names.PageId.{PageId}
use Rattle.ds_disk.specs.Contents.{Contents, Becomes}
use Rattle.ds_disk.specs.Pages.{AreBytes, PagesAreBytes, page_at}
use Rattle.ds_model.specs.declared.log.LogRecord.{LogRecord}
use Rattle.ds_model.specs.Logs.{StandFor}
use Rattle.ds_model.specs.Rows.{Rows, Spot}
use Rattle.log_record.specs.declared.log.Log.{Log}
use Rattle.log_rows.specs.Rows.{has_changed, is_closed}
use Rattle.log_trans.specs.Numbers.{greatest}
use Rattle.log_merge.specs.Merging.{all_records}
use Rattle.restart_plan.specs.Renewal.{must_renew}
use Rattle.group_restart.specs.declared.calls.State.{State}
use Rattle.group_restart.specs.declared.calls.State.TheVariants as state
use Rattle.group_restart.specs.Disk.{Drive}
use Rattle.group_restart.specs.Machine.{Restart}
use Rattle.group_restart.specs.Course.{IsBegun}
use Rattle.disk_restart.specs.Keeping.{KeepsRecords}
use Rattle.disk_restart.specs.Runs.{IsRun, RestartsDisk}
use Rattle.sound_disk.specs.Settled.{is_row_change, is_settled, has_ended}
use Rattle.sound_disk.specs.Sound.{IsSoundWith, IsSoundDisk}
use Rattle.sound_disk.specs.Versions.{last_images}
use Rattle.sound_disk.specs.Whole_logs.{AreWholeLogs}
use Rattle.sound_appends.specs.Laws.{HaveNoTails}
use Rattle.sound_plans.specs.Queues.{records_for}
use Rattle.sound_restarts.specs.Redo.{OldAreNumbered, with_page}
use Rattle.read_plans.specs.Ends.{IsLeftOut}
use Rattle.sound_steps.specs.Given.{NoneIsOld, IsLeftSound}
use Rattle.restart_soundness.specs.Left_out.{LeavesOutClosed}

-- ---- what a run leaves

-- the logs stand for the rows for which they stood
abbrev pub KeepsRows : Contents → Contents → Type 0
KeepsRows c d = (rows : Rows) → StandFor c.logs rows → StandFor d.logs rows

-- the member's log on the disk has neither a Commit nor an Ended of the transaction, and it may be read from a Checkpoint on behind which none of its
-- records stands
pub record IsUnread (c : Contents) (member tran : ℕ) : Type 0 where
  pub logs : List Log
  pub whole : AreWholeLogs 1 c.logs logs
  pub unclosed : is_closed (records_for logs member) tran ≡ false
  pub out : IsLeftOut (records_for logs member) tran

-- The disk is sound, and nothing is left to be restarted: no row change is open, no log has a tail, each page is as all records leave it, and none is
-- of version 1. Each transaction that has changed a row has a Commit or an Ended, but for one that was rolled back whole before the Checkpoint from
-- which the log of this disk was read when the restart began. This is the greatest number of the logs.
pub record IsAtRest (c : Contents) (counter : ℕ) (d : Contents) : Type 0 where
  pub logs : List Log
  pub sound : IsSoundWith d logs
  pub ended : (member tran : ℕ) → has_ended (records_for logs member) tran ≡ true
  pub closed : (member tran : ℕ) (spot : Spot) → tran ≢ 0 → has_changed (records_for logs member) tran spot ≡ true → (is_closed (records_for logs member) tran ≡ true) ⊎ IsUnread c member tran
  pub no_tails : HaveNoTails logs
  pub pages : (id : PageId) → page_at d.pages id ≡ last_images logs id
  pub none_old : NoneIsOld d
  pub number : counter ≡ greatest (all_records logs)

-- where all is done, the disk is at rest; no damage is named
abbrev pub EndsWith : Contents → State → Contents → Type 0
EndsWith c state.Going d = Unit {0}
EndsWith c (state.Done counter) d = IsAtRest c counter d
EndsWith c (state.Damaged volume at) d = ⊥
EndsWith c state.Failed d = Unit {0}

-- whatever the end, the disk is sound, with the same lasting records and the same rows; and what is left out of its logs is closed, if it was
pub record IsLeft (result : Result State NoMemory) (c d : Contents) : Type 0 where
  pub sound : IsLeftSound d
  pub keeps : KeepsRecords c d
  pub rows : KeepsRows c d
  pub ends : IfOk result (λ s. EndsWith c s d)
  pub closed : LeavesOutClosed c → LeavesOutClosed d

-- ---- laws

-- a disk that tells what it holds has the logs of all members
abbrev pub HasLogs : Drive → Type 0
HasLogs w = (c : Contents) → w.contents ≡ Some c → length c.logs ≡ 32

-- each run of a restart that has only begun, also one that ends inside a call of the disk, or for want of memory
abbrev pub RunsLeaveSound : Type 0
RunsLeaveSound = (w v : Drive) (h k : Restart) (result : Result State NoMemory) → HasLogs w → HasLogs v → IsBegun h → IsRun w h result v k → Becomes w.contents v.contents (λ c d. IsLeftSound c → IsLeft result c d)

-- and one that is made for the disk
abbrev pub RestartsLeaveSound : Type 0
RestartsLeaveSound = (w v : Drive) (result : Result State NoMemory) → HasLogs w → HasLogs v → RestartsDisk w result v → Becomes w.contents v.contents (λ c d. IsLeftSound c → IsLeft result c d)

-- ---- where such a run may begin

-- the numbers of pages of version 1 are numbers of the format where the pages are bytes
abbrev pub BytesAreNumbered : Type 0
BytesAreNumbered = (c : Contents) → PagesAreBytes c.pages → OldAreNumbered c

-- and there are none where no log asks for their renewal
abbrev pub RenewedAreNumbered : Type 0
RenewedAreNumbered = (c : Contents) (logs : List Log) → IsSoundWith c logs → must_renew logs ≡ false → OldAreNumbered c

-- so a run may begin with each sound disk whose pages are bytes, and what it leaves is a sound disk
abbrev pub SoundDisksBegin : Type 0
SoundDisksBegin = (c : Contents) → PagesAreBytes c.pages → IsSoundDisk c → IsLeftSound c

abbrev pub LeftDisksAreSound : Type 0
LeftDisksAreSound = (c : Contents) → IsLeftSound c → IsSoundDisk c

-- and so it may with each sound disk no log of which asks for pages of version 1 to be renewed
abbrev pub UnaskedDisksBegin : Type 0
UnaskedDisksBegin = (c : Contents) (logs : List Log) → IsSoundWith c logs → must_renew logs ≡ false → IsLeftSound c

-- or that has no page of version 1, as behind a restart that was done
abbrev pub NewDisksBegin : Type 0
NewDisksBegin = (c : Contents) → NoneIsOld c → IsSoundDisk c → IsLeftSound c

-- the numbers are of the format still where a page of bytes is written
abbrev pub WritesStayNumbered : Type 0
WritesStayNumbered = (c : Contents) (id : PageId) (page : List ℕ) → AreBytes page → OldAreNumbered c → OldAreNumbered (with_page c id page)

-- ---- disks of any kind

-- what a disk shows of itself, as the contract of a group restart has it
abbrev pub drive_of : {D : Type 0} → (D → Bool) → (D → Option Contents) → D → Drive
drive_of alive contents disk = record { alive = alive disk; contents = contents disk }

-- a group restart that has only begun leaves a sound disk sound, whatever it ends with
abbrev pub RunsLeaveDisksSound : {D : Type 0} → (D → Bool) → (D → Option Contents) → Type 0
RunsLeaveDisksSound {D} alive contents = (old new : D) (h k : Restart) (result : Result State NoMemory) → IsBegun h → IsRun (drive_of alive contents old) h result (drive_of alive contents new) k
    → Becomes (contents old) (contents new) (λ c d. IsSoundDisk c → IsLeft result c d)

-- and one that is made for the disk
abbrev pub RestartsLeaveDisksSound : {D : Type 0} → (D → Bool) → (D → Option Contents) → Type 0
RestartsLeaveDisksSound {D} alive contents = (old new : D) (result : Result State NoMemory) → RestartsDisk (drive_of alive contents old) result (drive_of alive contents new)
    → Becomes (contents old) (contents new) (λ c d. IsSoundDisk c → IsLeft result c d)

-- ---- what has ended

-- each row change is of a transaction that has committed, or was taken back
abbrev pub AreSettled : List LogRecord → Type 0
AreSettled records = AllByRecursion (λ (r : LogRecord). is_row_change r.body ≡ true → is_settled records r ≡ true) records

-- so it is where no row change of any transaction is open
abbrev pub EndedAreSettled : Type 0
EndedAreSettled = (records : List LogRecord) → ((tran : ℕ) → has_ended records tran ≡ true) → AreSettled records
