-- The records of logs with one record more, and their greatest number.
use Rattle.std.proofs.Common.{◌≡◌, ◌+◌, max, true, false, List, [], ◌∷◌, ◌++◌, refl, sym, ap, ◌∙◌, arith, append_assoc}
use Rattle.std.proofs.lemmas.Grind.{flat_map-append}
use Rattle.ds_model.specs.declared.log.LogRecord.{LogRecord}
use Rattle.ds_model.specs.declared.log.Body.{Body}
use Rattle.ds_model.specs.declared.log.Body.TheVariants as body
use Rattle.ds_model.specs.Logs.{is_commit}
use Rattle.log_record.specs.declared.log.Log.{Log}
use Rattle.log_record.specs.Changes.{is_drawn}
use Rattle.log_trans.specs.Numbers.{greatest}
use Rattle.log_merge.specs.Merging.{is_merged, all_records}
use Rattle.sound_disk.specs.Laws.{with_record}
use Rattle.sound_disk.specs.Settled.{is_row_change}
use Rattle.sound_appends.specs.Appends.{IsNext}

-- ---- all records

-- those before the place of the record, and those behind it
abbrev pub until : List Log → Log → List LogRecord
until front log = all_records front ++ log.records

pub all_split : (front : List Log) (log : Log) (back : List Log) → all_records (front ++ log ∷ back) ≡ until front log ++ all_records back
all_split front log back =
    flat_map-append (λ (l : Log). l.records) front (log ∷ back) ∙ sym (append_assoc (all_records front) log.records (all_records back))

pub all_with : (front : List Log) (log : Log) (back : List Log) (r : LogRecord) → all_records (front ++ with_record log r ∷ back) ≡ until front log ++ r ∷ all_records back
all_with front log back r =
    all_split front (with_record log r) back
    ∙ ap (λ (rs : List LogRecord). rs ++ all_records back) (sym (append_assoc (all_records front) log.records (r ∷ [])))
    ∙ append_assoc (until front log) (r ∷ []) (all_records back)

-- ---- the greatest number

pub greatest_more : (xs ys : List LogRecord) → greatest (xs ++ ys) ≡ max (greatest xs) (greatest ys)
greatest_more [] ys = omega arith
greatest_more (x ∷ xs) ys = let ih = greatest_more xs ys in omega (arith, ih)

-- ---- what a restart appends

pub above_all : (logs : List Log) (log : Log) (r : LogRecord) (b : Body) → IsNext logs log r b → is_drawn b ≡ true → r.lrsn ≡ greatest (all_records logs) + 1
above_all logs log r (body.RowChange change) h d = absurd h
above_all logs log r (body.Compensation change undone) h d = h.next
above_all logs log r (body.System patches) h d = absurd h
above_all logs log r body.Commit h d = absurd h
above_all logs log r body.Ended h d = absurd cc
above_all logs log r (body.Checkpoint offset) h d = absurd cc
above_all logs log r body.RestartEnd h d = absurd cc

pub same_table : (b : Body) → is_merged b ≡ is_drawn b
same_table (body.RowChange change) = refl
same_table (body.Compensation change undone) = refl
same_table (body.System patches) = refl
same_table body.Commit = refl
same_table body.Ended = refl
same_table (body.Checkpoint offset) = refl
same_table body.RestartEnd = refl

pub no_row_change : (logs : List Log) (log : Log) (r : LogRecord) (b : Body) → IsNext logs log r b → is_row_change b ≡ false
no_row_change logs log r (body.RowChange change) h = absurd h
no_row_change logs log r (body.Compensation change undone) h = refl
no_row_change logs log r (body.System patches) h = absurd h
no_row_change logs log r body.Commit h = absurd h
no_row_change logs log r body.Ended h = refl
no_row_change logs log r (body.Checkpoint offset) h = refl
no_row_change logs log r body.RestartEnd h = refl

pub no_commit : (logs : List Log) (log : Log) (r : LogRecord) (b : Body) → IsNext logs log r b → is_commit b ≡ false
no_commit logs log r (body.RowChange change) h = absurd h
no_commit logs log r (body.Compensation change undone) h = refl
no_commit logs log r (body.System patches) h = absurd h
no_commit logs log r body.Commit h = absurd h
no_commit logs log r body.Ended h = refl
no_commit logs log r (body.Checkpoint offset) h = refl
no_commit logs log r body.RestartEnd h = refl
