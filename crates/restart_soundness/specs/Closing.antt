-- That the logs of a disk on which a group restart was done close all transactions, wherever they may be read from.
use Rattle.std.specs.Prelude.{◌≡◌, ◌≢◌, ℕ, ◌+◌, ◌<◌, true, List, length, Ok}
use Rattle.ds_disk.specs.Contents.{Contents, log_of}
use Rattle.ds_model.specs.Rows.{Spot}
use Rattle.ds_model.specs.declared.log.LogRecord.{LogRecord}
use Rattle.log_rows.specs.Rows.{has_changed, is_closed}
use Rattle.log_reader.specs.Keeping.{AreWhole}
use Rattle.log_appends.specs.Appends.{AreLastFrom}
use Rattle.group_restart.specs.declared.calls.State.TheVariants as state
use Rattle.restart_soundness.specs.Left_out.{LeavesOutClosed, commits_last}
use Rattle.restart_soundness.specs.Runs.{IsLeft}

-- The log is whole records, and wherever it may be read from, each transaction that has changed a row there has a Commit or an Ended there, and none
-- changes a row behind its Commit.
pub record ClosesAll (log : List ℕ) : Type 0 where
  pub whole : AreWhole log
  pub closed : (start : ℕ) (back : List LogRecord) → AreLastFrom log start back → (tran : ℕ) (spot : Spot) → tran ≢ 0 → has_changed back tran spot ≡ true → is_closed back tran ≡ true
  pub commits : (start : ℕ) (back : List LogRecord) → AreLastFrom log start back → commits_last back ≡ true

pub record RestsClosed (d : Contents) : Type 0 where
  pub before : LeavesOutClosed d
  pub logs : (at : ℕ) → at < length d.logs → ClosesAll (log_of d.logs (at + 1))

-- a restart that is done leaves the disk so, for another one too
abbrev pub RestsClose : Type 0
RestsClose = (c d : Contents) (counter : ℕ) → length c.logs ≡ length d.logs → LeavesOutClosed c → IsLeft (Ok (state.Done counter)) c d → RestsClosed d
