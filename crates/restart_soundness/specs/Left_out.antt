-- That the logs of a disk close what need not be read of them.
use Rattle.std.specs.Prelude.{◌≡◌, ◌≢◌, ℕ, ◌==◌, Bool, true, not, ◌&&◌, List, [], ◌∷◌}
use Rattle.std.specs.List.{list_any}
use Rattle.ds_disk.specs.Contents.{Contents}
use Rattle.ds_model.specs.Logs.{is_commit}
use Rattle.ds_model.specs.Rows.{Spot}
use Rattle.ds_model.specs.declared.log.LogRecord.{LogRecord}
use Rattle.log_record.specs.declared.log.Log.{Log}
use Rattle.log_rows.specs.Rows.{has_changed, is_closed}
use Rattle.sound_disk.specs.Settled.{is_row_change}
use Rattle.sound_disk.specs.Whole_logs.{AreWholeLogs}
use Rattle.sound_plans.specs.Queues.{records_for}
use Rattle.read_plans.specs.Ends.{IsLeftOut}

-- one of the records changes a row for the transaction
abbrev pub changes_for : ℕ → List LogRecord → Bool
changes_for tran records = list_any (λ (r : LogRecord). (r.tran == tran) && is_row_change r.body) records

-- no transaction changes a row behind its Commit
abbrev pub commits_last : List LogRecord → Bool
commits_last [] = true
commits_last (r ∷ rs) = not (is_commit r.body && changes_for r.tran rs) && commits_last rs

-- So it is in each log; and where a log may be read from a Checkpoint on behind which no record of a transaction stands that has changed a row, it has a
-- Commit or an Ended.
pub record LeavesOutClosed (c : Contents) : Type 0 where
  pub logs : List Log
  pub whole : AreWholeLogs 1 c.logs logs
  pub commits : (member : ℕ) → commits_last (records_for logs member) ≡ true
  pub closed : (member tran : ℕ) (spot : Spot) → tran ≢ 0 → has_changed (records_for logs member) tran spot ≡ true → IsLeftOut (records_for logs member) tran → is_closed (records_for logs member) tran ≡ true
