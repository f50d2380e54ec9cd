-- The rows that a failed member's log leaves open.
use Rattle.std.specs.Prelude.{◌≡◌, ◌≢◌, ℕ, ◌+◌, true, false, List, Contains, Some, slice_get}
use Rattle.std.specs.List.{AllByRecursion}
use Rattle.ds_disk.specs.Contents.{Contents, log_of}
use Rattle.ds_model.specs.Rows.{Spot}
use Rattle.ds_model.specs.declared.lock.Name.{Name}
use Rattle.ds_model.specs.declared.lock.Name.TheVariants as name
use Rattle.ds_model.specs.declared.log.LogRecord.{LogRecord}
use Rattle.lock_names.specs.declared.mode.Mode.TheVariants.{X}
use Rattle.list_structure.specs.Standings.{is_live, status_of}
use Rattle.lock_protocol.specs.Machine.{World}
use Rattle.lock_structure.specs.Locks.{record_of}
use Rattle.log_rows.specs.Rows.{touches}
use Rattle.log_trans.specs.Courses.{open_trans}
use Rattle.log_trans.specs.declared.opened.OpenTran.{OpenTran}
use Rattle.restart_law.specs.Reads.{AreLast}
use Rattle.rested_logs.specs.Given.{CrewState, LocksTied, LogsStand, Member}
use Rattle.sound_locks.specs.Claims.{LockClaim, Retains, claims_in}

-- nobody has a claim on the name, and the member has a retained record of it in X
pub record IsRetained (s : CrewState) (member : ℕ) (n : Name) : Type 0 where
  pub free : (a : LockClaim) → Contains (claims_in s) a → a.name ≢ n
  pub retained : Retains (record_of s.facility.locks member n) X

-- each row is so that the transaction has changed
abbrev pub AreRetained : CrewState → ℕ → OpenTran → Type 0
AreRetained s member t = (spot : Spot) → touches t spot ≡ true → IsRetained s member (name.Row spot.0 spot.1)

-- Of each member that has failed and doesn't restart yet: whatever last records of its log on disk are read, each row is so that a transaction has
-- changed which they leave open.
abbrev pub FailedAreRetained : Contents → CrewState → Type 0
FailedAreRetained c s = (at : ℕ) (m : Member) → slice_get s.members at ≡ Some m → is_live (status_of s.facility.lists.statuses (at + 1)) ≡ false
    → (records : List LogRecord) → AreLast (log_of c.logs (at + 1)) records → AllByRecursion (AreRetained s (at + 1)) (open_trans records)

-- so it is in a group beside a sound world of locks in which the logs have their claims
abbrev pub LogsRetain : Type 0
LogsRetain = (c : Contents) (s : CrewState) (w : World) → LocksTied s w → LogsStand c s w → FailedAreRetained c s
