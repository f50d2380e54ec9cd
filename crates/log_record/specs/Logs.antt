-- The records of a log's bytes.
use Rattle.std.specs.Prelude.{◌≡◌, ℕ, ◌+◌, zero, suc, List, [], ◌∷◌, ◌++◌, length, take, drop, Result, Ok, Err}
use Rattle.std.specs.List.{AllByRecursion}
use Rattle.ds_model.specs.declared.log.LogRecord.{LogRecord}
use Rattle.ds_model.specs.RecordBytes.{IsAllowed, log_bytes}
use Rattle.log_record.specs.declared.fault.RecordFault.{RecordFault}
use Rattle.log_record.specs.declared.fault.RecordFault.TheVariants.{NotWhole, Bad}
use Rattle.log_record.specs.declared.log.Log.{Log}
use Rattle.log_record.specs.Reading.{record_in}

-- whole records, how many bytes they have, and how many follow them
pub record Parts : Type 0 where
  pub records : List LogRecord
  pub size : ℕ
  pub tail : ℕ

-- the parts, or where the log is damaged, behind a record of so many bytes
abbrev pub behind : LogRecord → ℕ → Result Parts ℕ → Result Parts ℕ
behind r n (Ok p) = Ok (record { records = r ∷ p.records; size = n + p.size; tail = p.tail })
behind r n (Err at) = Err (n + at)

-- what follows a record is read on; a field that isn't allowed is damage; what isn't whole is the tail
abbrev pub parts_from : (List ℕ → Result Parts ℕ) → List ℕ → Result (LogRecord × ℕ) RecordFault → Result Parts ℕ
parts_from read_on bytes (Ok (r, n)) = behind r n (read_on (drop n bytes))
parts_from read_on bytes (Err (Bad at)) = Err at
parts_from read_on bytes (Err _) = Ok (record { records = []; size = 0; tail = length bytes })

-- reads so many records at most
unfoldable pub parts_up_to : ℕ → List ℕ → Result Parts ℕ
parts_up_to zero bytes = Ok (record { records = []; size = 0; tail = length bytes })
parts_up_to (suc count) bytes = parts_from (λ rest. parts_up_to count rest) bytes (record_in bytes)

-- the parts of a log of these bytes, or where its first field that isn't allowed begins; no log has more records than bytes
unfoldable pub parts_in : List ℕ → Result Parts ℕ
parts_in bytes = parts_up_to (suc (length bytes)) bytes

-- the bytes are these whole records, and then a tail that is no whole record
pub record ArePartsOf (bytes : List ℕ) (p : Parts) : Type 0 where
  pub rest : List ℕ
  pub split : bytes ≡ log_bytes p.records ++ rest
  pub allowed : AllByRecursion IsAllowed p.records
  pub not_whole : record_in rest ≡ Err NotWhole
  pub size_is : p.size ≡ length (log_bytes p.records)
  pub tail_is : p.tail ≡ length rest

-- the bytes are whole records, and then one with a field at this byte that isn't allowed
pub record IsDamagedAt (bytes : List ℕ) (at : ℕ) : Type 0 where
  pub records : List LogRecord
  pub rest : List ℕ
  pub split : bytes ≡ log_bytes records ++ rest
  pub allowed : AllByRecursion IsAllowed records
  pub field : ℕ
  pub bad : record_in rest ≡ Err (Bad field)
  pub place : at ≡ length (log_bytes records) + field

abbrev pub parts_of : Log → Parts
parts_of log = record { records = log.records; size = log.length; tail = log.tail }

-- the log has the records, the length and the tail of these bytes
pub record IsLogOf (bytes : List ℕ) (log : Log) : Type 0 where
  pub is_read : parts_in bytes ≡ Ok (parts_of log)
  pub spelled : take log.length bytes ≡ log_bytes log.records
  pub allowed : AllByRecursion IsAllowed log.records
  pub whole : length bytes ≡ log.length + log.tail
