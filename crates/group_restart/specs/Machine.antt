-- A group restart between two calls of the disk.
use Rattle.std.specs.Prelude.{ℕ, Bool, List}
use Rattle.ds_model.specs.declared.log.LogRecord.{LogRecord}
use Rattle.log_record.specs.declared.log.Log.{Log}
use Rattle.log_reader.specs.Readers.{ReaderState}
use Rattle.restart_plan.specs.declared.plan.Plan.{Plan}
use Rattle.group_restart.specs.declared.stage.Stage.{Stage}

-- The call that is made next; the reader of the log that is read, and the logs that are; what is left to be done, and the places of the
-- records of the page that is brought forward; whether pages of version 1 are written in version 2, and the last page of the page set that is looked through for them; the
-- greatest number; the page at hand; and what is appended next.
pub record Restart : Type 0 where
  pub stage : Stage
  pub reader : ReaderState
  pub logs : List Log
  pub plan : Plan
  pub places : List ℕ
  pub renews : Bool
  pub last : ℕ
  pub counter : ℕ
  pub page : List ℕ
  pub added : List LogRecord
