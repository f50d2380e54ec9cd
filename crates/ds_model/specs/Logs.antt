-- The rows that the logs of a disk stand for.
use Rattle.std.specs.Prelude.{◌≡◌, ◌⊎◌, ℕ, ◌<◌, Bool, true, false, List, [], ◌∷◌, ◌++◌, length, take, Option, Some, None, filter, nat_le, ◌==◌, if◌then◌else◌, ◌&&◌}
use Rattle.std.specs.List.{list_any, flat_map, AllByRecursion}
use Rattle.std.specs.FinMap as finite
use Rattle.ds_model.specs.declared.log.LogRecord.{LogRecord}
use Rattle.ds_model.specs.declared.log.Body.{Body}
use Rattle.ds_model.specs.declared.log.Body.TheVariants as body
use Rattle.ds_model.specs.Rows.{Rows}
use Rattle.ds_model.specs.RecordBytes.{record_bytes, log_bytes, IsAllowed}

-- ---- the records of a log

-- nothing, or a proper front of a record: what a stop inside an append may leave
abbrev pub IsTorn : List ℕ → Type 0
IsTorn tail = (tail ≡ []) ⊎ ((r : LogRecord) × IsAllowed r × (n : ℕ) × (n < length (record_bytes r)) × (tail ≡ take n (record_bytes r)))

-- a log's bytes are these whole records, and then a torn tail
pub record IsLog (bytes : List ℕ) (records : List LogRecord) : Type 0 where
  pub tail : List ℕ
  pub whole : bytes ≡ log_bytes records ++ tail
  pub allowed : AllByRecursion IsAllowed records
  pub torn : IsTorn tail

-- the logs of the members 1, 2, .. have these records
abbrev pub AreLogs : List (List ℕ) → List (List LogRecord) → Type 0
AreLogs [] [] = Unit {0}
AreLogs [] (rs ∷ rss) = ⊥
AreLogs (bs ∷ bss) [] = ⊥
AreLogs (bs ∷ bss) (rs ∷ rss) = IsLog bs rs × AreLogs bss rss

-- ---- the rows of records

abbrev pub is_commit : Body → Bool
is_commit body.Commit = true
is_commit (body.RowChange change) = false
is_commit (body.Compensation change undone) = false
is_commit (body.System patches) = false
is_commit body.Ended = false
is_commit (body.Checkpoint offset) = false
is_commit body.RestartEnd = false

-- the transaction has a Commit record among these
abbrev pub has_commit : List LogRecord → ℕ → Bool
has_commit records tran = list_any (λ (r : LogRecord). is_commit r.body && (r.tran == tran)) records

-- in the order of their numbers; of equal ones the earlier comes first
abbrev pub put_by_lrsn : LogRecord → List LogRecord → List LogRecord
put_by_lrsn r [] = r ∷ []
put_by_lrsn r (s ∷ ss) = if nat_le r.lrsn s.lrsn then r ∷ s ∷ ss else s ∷ put_by_lrsn r ss

abbrev pub by_lrsn : List LogRecord → List LogRecord
by_lrsn [] = []
by_lrsn (r ∷ rs) = put_by_lrsn r (by_lrsn rs)

-- a row gets a value, or goes
abbrev pub set_row : Rows → ℕ → ℕ → Option (List ℕ) → Rows
set_row rows table key None = finite.remove rows (table, key)
set_row rows table key (Some value) = finite.insert rows (table, key) value

-- of a transaction with a Commit record only its row changes count
abbrev pub after_body : Rows → Body → Rows
after_body rows body.Commit = rows
after_body rows (body.RowChange c) = set_row rows c.table c.key c.after
after_body rows (body.Compensation c undone) = rows
after_body rows (body.System patches) = rows
after_body rows body.Ended = rows
after_body rows (body.Checkpoint offset) = rows
after_body rows body.RestartEnd = rows

abbrev pub after_records : Rows → List LogRecord → Rows
after_records rows [] = rows
after_records rows (r ∷ rs) = after_records (after_body rows r.body) rs

-- keep the records of transactions with a Commit record, order them by number, and do one after the other
abbrev pub rows_of_records : List LogRecord → Rows
rows_of_records records = after_records finite.empty (by_lrsn (filter (λ (r : LogRecord). has_commit records r.tran) records))

abbrev pub rows_of_logs : List (List LogRecord) → Rows
rows_of_logs logs = rows_of_records (flat_map (λ (l : List LogRecord). l) logs)

-- the bytes of the logs stand for these rows
pub record StandFor (logs : List (List ℕ)) (rows : Rows) : Type 0 where
  pub records : List (List LogRecord)
  pub are : AreLogs logs records
  pub rows_are : rows_of_logs records ≡ rows
