-- What is kept of logs to tell of the transactions that have committed since the opening.
use Rattle.std.specs.Prelude.{◌≡◌, ℕ, ◌+◌, Bool, ◌||◌, ◌&&◌, not, ◌==◌, nat_lt, nat_le, cond, List, [], ◌∷◌, ◌++◌, length, take, drop, filter, Decides}
use Rattle.std.specs.List.{AllByRecursion}
use Rattle.std.specs.BTreeSet as set
use Rattle.std.specs.Ordering.{nat_cmp}
use Rattle.ds_model.specs.declared.log.LogRecord.{LogRecord}
use Rattle.ds_model.specs.Logs.{has_commit}
use Rattle.log_record.specs.declared.log.Log.{Log}
use Rattle.report_check.specs.Records.{records_of}
use Rattle.opening_rows.specs.declared.keeps.Keeps.{Keeps}
use Rattle.opening_rows.specs.declared.keeps.Keeps.TheVariants as which
use Rattle.opening_rows.specs.declared.taken.Taken.{Taken}
use Rattle.opening_rows.specs.declared.kept.Kept.{Kept}
use Rattle.opening_rows.specs.declared.kept.KeptLogs.{KeptLogs}

-- of which transactions records are kept; 0 is the number of none
abbrev pub keeps_of : Keeps → ℕ → Bool
keeps_of which.Each tran = not (tran == 0)
keeps_of (which.These trans) tran = set.contains nat_cmp trans tran

-- the records of these transactions
abbrev pub kept_by : (ℕ → Bool) → List LogRecord → List LogRecord
kept_by keeps records = filter (λ (r : LogRecord). keeps r.tran) records

-- ---- one log

-- Of a log that had so many records at the opening these records were read: how many they are, those of them that are kept, how many of
-- these stand among the first so many, and the transactions with a Commit record behind those.
pub record HasTaken (keeps : ℕ → Bool) (had : ℕ) (records : List LogRecord) (t : Taken) : Type 0 where
  pub count_is : t.count ≡ length records
  pub records_are : t.records.items ≡ kept_by keeps records
  pub before_is : t.before ≡ length (kept_by keeps (take had records))
  pub commits_are : (tran : ℕ) → set.contains nat_cmp t.commits tran ≡ has_commit (drop had records) tran

-- one record more
pub record Adds (keeps : ℕ → Bool) (had : ℕ) (old new : Taken) (r : LogRecord) : Type 0 where
  pub count_is : new.count ≡ old.count + 1
  pub records_are : new.records.items ≡ old.records.items ++ kept_by keeps (r ∷ [])
  pub before_is : new.before ≡ old.before + cond (nat_lt old.count had) (length (kept_by keeps (r ∷ []))) 0
  pub commits_are : (tran : ℕ) → set.contains nat_cmp new.commits tran ≡ (set.contains nat_cmp old.commits tran || (nat_le had old.count && has_commit (r ∷ []) tran))

-- the transaction has a Commit record behind so many records
abbrev pub is_new : ℕ → List LogRecord → ℕ → Bool
is_new had records tran = has_commit (drop had records) tran

-- the records of such transactions
abbrev pub told_of : ℕ → List LogRecord → List LogRecord
told_of had records = kept_by (is_new had records) records

-- how many of these the log had at the opening
abbrev pub told_before : ℕ → List LogRecord → ℕ
told_before had records = length (kept_by (is_new had records) (take had records))

pub record IsKept (had : ℕ) (log : Log) (k : Kept) : Type 0 where
  pub records_are : k.records.items ≡ told_of had log.records
  pub before_is : k.before ≡ told_before had log.records
  pub tail_is : k.tail ≡ log.tail

-- ---- all logs

-- the same of each log, which had so many records at the opening
abbrev pub all_told : List ℕ → List (List LogRecord) → List (List LogRecord)
all_told had [] = []
all_told [] (log ∷ logs) = told_of 0 log ∷ all_told [] logs
all_told (n ∷ had) (log ∷ logs) = told_of n log ∷ all_told had logs

abbrev pub all_before : List ℕ → List (List LogRecord) → List ℕ
all_before had [] = []
all_before [] (log ∷ logs) = told_before 0 log ∷ all_before [] logs
all_before (n ∷ had) (log ∷ logs) = told_before n log ∷ all_before had logs

-- nothing follows the whole records of each log
abbrev pub AreWhole : List Log → Type 0
AreWhole logs = AllByRecursion (λ (l : Log). l.tail ≡ 0) logs

pub record AreKept (had : List ℕ) (logs : List Log) (k : KeptLogs) : Type 0 where
  pub records_are : records_of k.logs.items ≡ all_told had (records_of logs)
  pub before_are : k.had.items ≡ all_before had (records_of logs)
  pub whole : Decides k.are_whole (AreWhole logs)
