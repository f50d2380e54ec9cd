-- What a group restart appends to the logs of a disk, one record after the other.
use Rattle.std.specs.Prelude.{◌≡◌, ℕ, ◌+◌, ◌-◌, ◌≤◌, ◌==◌, false, List, [], ◌∷◌, ◌++◌, length, slice_get, Some}
use Rattle.ds_model.specs.declared.log.LogRecord.{LogRecord}
use Rattle.ds_model.specs.declared.log.RowChange.{RowChange}
use Rattle.ds_model.specs.declared.log.Body.{Body}
use Rattle.ds_model.specs.declared.log.Body.TheVariants as body
use Rattle.ds_model.specs.RecordBytes.{IsAllowed}
use Rattle.log_record.specs.declared.log.Log.{Log}
use Rattle.log_trans.specs.declared.course.Course.{Course}
use Rattle.log_trans.specs.Courses.{new_course}
use Rattle.log_trans.specs.Numbers.{greatest}
use Rattle.log_merge.specs.Merging.{all_records}
use Rattle.sound_disk.specs.Transactions.{course_in, InvertsBody}
use Rattle.sound_disk.specs.Laws.{last_number, with_record}

-- what the transaction's records of the log come to
abbrev pub course_of : Log → ℕ → Course
course_of log tran = course_in new_course tran log.records

-- ---- one record

-- of a transaction that has no Commit: its last row change that isn't undone is taken back, under the next number
pub record Compensates (logs : List Log) (log : Log) (r : LogRecord) (change : RowChange) (undone : ℕ) : Type 0 where
  pub made : LogRecord
  pub last : slice_get (course_of log r.tran).undo (length (course_of log r.tran).undo - 1) ≡ Some made
  pub number_is : made.lrsn ≡ undone
  pub inverts : InvertsBody change made.body
  pub uncommitted : (course_of log r.tran).is_committed ≡ false
  pub next : r.lrsn ≡ greatest (all_records logs) + 1

-- no number is drawn for the record: it has one that was, and none of its log is above it
pub record RepeatsNumber (logs : List Log) (log : Log) (r : LogRecord) : Type 0 where
  pub low : last_number 0 log.records ≤ r.lrsn
  pub high : r.lrsn ≤ greatest (all_records logs)

-- all row changes of the transaction are undone, of which it has had some
pub record Closes (logs : List Log) (log : Log) (r : LogRecord) : Type 0 where
  pub number : RepeatsNumber logs log r
  pub undone : length (course_of log r.tran).undo ≡ 0
  pub some : (length (course_of log r.tran).undone == 0) ≡ false

-- a restart writes compensations, the ends of transactions, Checkpoints that name their own place, and RestartEnds
abbrev pub IsNext : List Log → Log → LogRecord → Body → Type 0
IsNext logs log r (body.RowChange change) = ⊥
IsNext logs log r (body.Compensation change undone) = Compensates logs log r change undone
IsNext logs log r (body.System patches) = ⊥
IsNext logs log r body.Commit = ⊥
IsNext logs log r body.Ended = Closes logs log r
IsNext logs log r (body.Checkpoint offset) = RepeatsNumber logs log r × (offset ≡ log.length)
IsNext logs log r body.RestartEnd = RepeatsNumber logs log r

-- ---- the logs

-- one of the logs gets the record behind its others, and these are the logs behind it
pub record Appends (logs : List Log) (r : LogRecord) (after : List Log) : Type 0 where
  pub front : List Log
  pub log : Log
  pub back : List Log
  pub logs_are : logs ≡ front ++ log ∷ back
  pub after_are : after ≡ front ++ with_record log r ∷ back
  pub allowed : IsAllowed r
  pub next : IsNext logs log r r.body

-- these members get these records, one after the other
abbrev pub AppendsAll : List Log → List (ℕ × LogRecord) → List Log → Type 0
AppendsAll logs [] after = after ≡ logs
AppendsAll logs (w ∷ ws) after = (mid : List Log) × (h : Appends logs w.1 mid) × (h.log.member ≡ w.0) × AppendsAll mid ws after
