-- The transactions that a log leaves open, beside what was read of it.
use Rattle.std.specs.Prelude.{◌≡◌, ◌⊎◌, ℕ, true, false, List, ◌++◌, length}
use Rattle.ds_disk.specs.Contents.{Contents}
use Rattle.ds_model.specs.declared.log.LogRecord.{LogRecord}
use Rattle.ds_model.specs.RecordBytes.{log_bytes}
use Rattle.log_record.specs.declared.log.Log.{Log}
use Rattle.group_restart.specs.Course.{plan_read}
use Rattle.sound_disk.specs.Sound.{IsSoundWith}
use Rattle.sound_disk.specs.Transactions.{speak_of}
use Rattle.sound_plans.specs.Ends.{takes, IsLeftOpen}
use Rattle.sound_plans.specs.Queues.{records_for}
use Rattle.sound_reads.specs.Reads.{MayBeginAt, AreReadOf}

-- the records may be read from a Checkpoint on behind which none is the transaction's
pub record IsLeftOut (records : List LogRecord) (tran : ℕ) : Type 0 where
  pub front : List LogRecord
  pub back : List LogRecord
  pub records_are : records ≡ front ++ back
  pub begins : MayBeginAt (length (log_bytes front)) back
  pub silent : speak_of tran back ≡ false

-- each is closed by the plan of what was read, or a change of it is undone; or it was left out
abbrev pub OpensAreTaken : Type 0
OpensAreTaken = (c : Contents) (logs reads : List Log) (member tran : ℕ) → IsSoundWith c logs → AreReadOf logs reads → IsLeftOpen logs member tran
    → (takes (plan_read reads).closings (plan_read reads).undo member tran ≡ true) ⊎ IsLeftOut (records_for logs member) tran
