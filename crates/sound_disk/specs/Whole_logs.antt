-- The first clause of a sound disk, whole records: each log is whole records, whose numbers never fall, and then a torn one or nothing.
use Rattle.std.specs.Prelude.{◌≡◌, ℕ, ◌+◌, List, [], ◌∷◌, length}
use Rattle.ds_model.specs.RecordBytes.{log_bytes}
use Rattle.ds_model.specs.Logs.{IsLog}
use Rattle.log_record.specs.declared.log.Log.{Log}
use Rattle.restart_plan.specs.Given.{RisesFrom}

-- the bytes of the member's log are the log's whole records, in the order of their numbers, and then a proper front of a record or nothing
pub record IsWholeLog (member : ℕ) (bytes : List ℕ) (log : Log) : Type 0 where
  pub member_is : log.member ≡ member
  pub records_are : IsLog bytes log.records
  pub length_is : log.length ≡ length (log_bytes log.records)
  pub tail_is : log.length + log.tail ≡ length bytes
  pub rising : RisesFrom 0 log.records

-- the logs of the members from this one on
abbrev pub AreWholeLogs : ℕ → List (List ℕ) → List Log → Type 0
AreWholeLogs member [] [] = Unit {0}
AreWholeLogs member [] (log ∷ logs) = ⊥
AreWholeLogs member (bytes ∷ rest) [] = ⊥
AreWholeLogs member (bytes ∷ rest) (log ∷ logs) = IsWholeLog member bytes log × AreWholeLogs (member + 1) rest logs
