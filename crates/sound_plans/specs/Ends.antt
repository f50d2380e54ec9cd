-- Which transactions get an Ended record by what a group restart still closes and undoes.
use Rattle.std.specs.Prelude.{◌≡◌, ◌≢◌, ◌⊎◌, ℕ, ◌==◌, Bool, true, false, ◌&&◌, ◌||◌, List, [], ◌++◌}
use Rattle.std.specs.List.{list_any}
use Rattle.ds_model.specs.declared.log.Body.{Body}
use Rattle.ds_model.specs.declared.log.Body.TheVariants as body
use Rattle.ds_model.specs.declared.log.LogRecord.{LogRecord}
use Rattle.log_record.specs.declared.log.Log.{Log}
use Rattle.log_trans.specs.Courses.{new_course}
use Rattle.restart_plan.specs.declared.opened.Closing.{Closing}
use Rattle.restart_plan.specs.declared.opened.Undo.{Undo}
use Rattle.restart_plan.specs.Plans.{plan_of}
use Rattle.sound_disk.specs.Transactions.{AreTransactions}
use Rattle.sound_disk.specs.Whole_logs.{AreWholeLogs}
use Rattle.sound_plans.specs.Opens.{course_of}
use Rattle.sound_plans.specs.Queues.{records_for, is_of}

-- ---- what is still to be done

abbrev pub is_closing : ℕ → ℕ → Closing → Bool
is_closing member tran c = (c.member == member) && (c.tran == tran)

-- the transaction is one that is closed, or one of which a change is undone
abbrev pub takes : List Closing → List Undo → ℕ → ℕ → Bool
takes cs us member tran = list_any (is_closing member tran) cs || list_any (is_of member tran) us

-- ---- Ended records

-- it has an Ended record in the member's log
abbrev pub has_end : List Log → ℕ → ℕ → Bool
has_end logs member tran = (course_of (records_for logs member) tran).is_ended

-- the logs as they were when a restart began, and the transactions that are to have an Ended in the end, by the member of their log and their number
pub record ToEnd : Type 0 where
  pub logs : List Log
  pub trans : ℕ → ℕ → Bool

abbrev pub is_checkpoint : Body → Bool
is_checkpoint (body.RowChange change) = false
is_checkpoint (body.Compensation change undone) = false
is_checkpoint (body.System patches) = false
is_checkpoint body.Commit = false
is_checkpoint body.Ended = false
is_checkpoint (body.Checkpoint offset) = true
is_checkpoint body.RestartEnd = false

abbrev pub has_checkpoint : List LogRecord → Bool
has_checkpoint records = list_any (λ (r : LogRecord). is_checkpoint r.body) records

abbrev pub IsNothing : List Closing → List Undo → Type 0
IsNothing cs us = (cs ≡ []) × (us ≡ [])

-- the log had the first of these records, and has the others; a Checkpoint is behind the first ones only where nothing is to be closed or undone any more
pub record HasGrown (cs : List Closing) (us : List Undo) (old new : List LogRecord) : Type 0 where
  pub more : List LogRecord
  pub are : new ≡ old ++ more
  pub until : (has_checkpoint more ≡ false) ⊎ IsNothing cs us

-- each of these transactions has an Ended record, or it is still to be closed or undone, in logs that have grown so
pub record EndAll (ts : ToEnd) (cs : List Closing) (us : List Undo) (logs : List Log) : Type 0 where
  pub each : (member tran : ℕ) → ts.trans member tran ≡ true → (has_end logs member tran ≡ true) ⊎ (takes cs us member tran ≡ true)
  pub grown : (member : ℕ) → HasGrown cs us (records_for ts.logs member) (records_for logs member)

-- ---- what the plan takes

-- the transaction's records of the log come to something, and neither a Commit nor an Ended record is among them
pub record IsLeftOpen (logs : List Log) (member tran : ℕ) : Type 0 where
  pub numbered : tran ≢ 0
  pub some : course_of (records_for logs member) tran ≢ new_course
  pub uncommitted : (course_of (records_for logs member) tran).is_committed ≡ false
  pub unended : (course_of (records_for logs member) tran).is_ended ≡ false

-- the plan closes each such transaction, or undoes a change of it
abbrev pub PlanTakesOpens : Type 0
PlanTakesOpens = (bytes : List (List ℕ)) (logs : List Log) (member tran : ℕ) → AreWholeLogs 1 bytes logs → AreTransactions logs → IsLeftOpen logs member tran → takes (plan_of logs).closings (plan_of logs).undo member tran ≡ true
