-- How far a log is whole records whose numbers never fall.
use Rattle.std.specs.Prelude.{◌≡◌, ℕ, ◌+◌, List, ◌++◌, length, drop, Err}
use Rattle.std.specs.List.{AllByRecursion}
use Rattle.ds_model.specs.RecordBytes.{log_bytes, IsAllowed}
use Rattle.log_record.specs.declared.log.Log.{Log}
use Rattle.log_record.specs.Reading.{record_in}
use Rattle.log_record.specs.declared.fault.RecordFault.TheVariants.{NotWhole}
use Rattle.log_merge.specs.Merging.{RisesFrom}
use Rattle.whole_logs.specs.declared.read.Reach.{Reach}
use Rattle.whole_logs.specs.declared.read.Reach.TheVariants as reach
use Rattle.whole_logs.specs.Breaks.{BreaksOff}

-- the bytes of the member's log are the log's whole records, in the order of their numbers, and then a tail that is no whole record
pub record IsRead (member : ℕ) (bytes : List ℕ) (log : Log) : Type 0 where
  pub member_is : log.member ≡ member
  pub split : bytes ≡ log_bytes log.records ++ drop log.length bytes
  pub allowed : AllByRecursion IsAllowed log.records
  pub rising : RisesFrom 0 log.records
  pub length_is : log.length ≡ length (log_bytes log.records)
  pub tail_is : log.length + log.tail ≡ length bytes
  pub not_whole : record_in (drop log.length bytes) ≡ Err NotWhole

abbrev pub Reaches : ℕ → List ℕ → Reach → Type 0
Reaches member bytes (reach.Tail log) = IsRead member bytes log
Reaches member bytes (reach.Broken at) = BreaksOff bytes at
