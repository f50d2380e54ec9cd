-- Where the whole records of a log break off.
use Rattle.std.specs.Prelude.{◌≡◌, ℕ, ◌≤◌, List, [], ◌∷◌, ◌++◌, length, Err}
use Rattle.std.specs.List.{AllByRecursion}
use Rattle.ds_model.specs.declared.log.LogRecord.{LogRecord}
use Rattle.ds_model.specs.RecordBytes.{record_bytes, log_bytes, IsAllowed}
use Rattle.ds_model.specs.Logs.{IsTorn}
use Rattle.log_record.specs.Reading.{Found, record_in}
use Rattle.log_record.specs.declared.fault.RecordFault.TheVariants.{NotWhole}
use Rattle.log_merge.specs.Merging.{RisesFrom}
use Rattle.whole_logs.specs.declared.next.Next.{Next}
use Rattle.whole_logs.specs.declared.next.Next.TheVariants as next

-- behind these records of the bytes neither one that may follow begins nor one that was cut short
pub record BreaksOff (bytes : List ℕ) (at : ℕ) : Type 0 where
  pub records : List LogRecord
  pub rest : List ℕ
  pub split : bytes ≡ log_bytes records ++ rest
  pub allowed : AllByRecursion IsAllowed records
  pub rising : RisesFrom 0 records
  pub not_torn : IsTorn rest → ⊥
  pub no_record : (r : LogRecord) (more : List ℕ) → IsAllowed r → rest ≡ record_bytes r ++ more → RisesFrom 0 (records ++ r ∷ []) → ⊥
  pub place : at ≡ length (log_bytes records)

-- neither a record with this number or a higher one begins the bytes, nor are they one that was cut short
pub record NoneFollows (low : ℕ) (rest : List ℕ) : Type 0 where
  pub not_torn : IsTorn rest → ⊥
  pub no_record : (r : LogRecord) (more : List ℕ) → IsAllowed r → rest ≡ record_bytes r ++ more → low ≤ r.lrsn → ⊥

-- what the bytes begin with, behind a record with this number
abbrev pub IsNext : ℕ → List ℕ → Next → Type 0
IsNext low rest (next.Whole r n) = Found rest r n × (low ≤ r.lrsn)
IsNext low rest next.Tail = record_in rest ≡ Err NotWhole
IsNext low rest next.Broken = NoneFollows low rest
