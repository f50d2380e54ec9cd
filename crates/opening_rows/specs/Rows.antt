-- The rows of logs that were surveyed, by the records that are left of them.
use Rattle.std.specs.Prelude.{◌≡◌, ◌||◌, ◌&&◌, ℕ, Bool, false, not, if◌then◌else◌, List, [], ◌∷◌, Option, None, Some, filter}
use Rattle.std.specs.List.{AllByRecursion}
use Rattle.std.specs.BTreeSet as set
use Rattle.std.specs.FinMap as finite
use Rattle.std.specs.Ordering.{nat_cmp}
use Rattle.ds_model.specs.declared.log.LogRecord.{LogRecord}
use Rattle.ds_model.specs.RecordBytes.{log_bytes, IsAllowed}
use Rattle.ds_model.specs.Rows.{Rows}
use Rattle.ds_model.specs.Logs.{by_lrsn, after_body, after_records, has_commit}
use Rattle.log_record.specs.declared.log.Log.{Log}
use Rattle.log_merge.specs.Merging.{all_records, NoneFalls}
use Rattle.log_head.specs.Heads.{HeadState, left_bytes, left_of}
use Rattle.log_heads.specs.declared.taken.Taken.{Taken}
use Rattle.log_heads.specs.declared.taken.Taken.TheVariants as taken
use Rattle.log_heads.specs.Logs.{AreOf, left, together, IsTaken}
use Rattle.opening_rows.specs.Reading.{AreLogsOf}
use Rattle.opening_rows.specs.Surveyed.{lengths_of}
use Rattle.opening_rows.specs.Pending.{is_pending}
use Rattle.opening_rows.specs.declared.made.Made.{Made}

-- what is left of each log, as far as it is read, are whole records
abbrev pub IsWhole : List ℕ → HeadState → Type 0
IsWhole log h = (left_bytes log h ≡ log_bytes (left_of log h)) × AllByRecursion IsAllowed (left_of log h)

abbrev pub AreWhole : List (List ℕ) → List HeadState → Type 0
AreWhole [] hs = Unit {0}
AreWhole (log ∷ logs) [] = Unit {0}
AreWhole (log ∷ logs) (h ∷ hs) = IsWhole log h × AreWhole logs hs

-- the logs are read so
pub record Stand (logs : List (List ℕ)) (heads : List HeadState) : Type 0 where
  pub of : AreOf logs heads
  pub whole : AreWhole logs heads

-- bytes that are read on leave the same records
abbrev pub AreKept : List (List ℕ) → List HeadState → List HeadState → Type 0
AreKept logs old new = Stand logs old → Stand logs new × (left logs new ≡ left logs old)

-- ---- the next record

abbrev pub AreRead : List (List LogRecord) → Type 0
AreRead lists = AllByRecursion (λ (l : List LogRecord). l ≡ []) lists

-- what is taken of logs of whole records: the next record of all; or bytes are wanted; or none is left
abbrev pub Comes : List (List LogRecord) → Taken → List (List LogRecord) → Type 0
Comes old (taken.Record member r) new = IsTaken member r old new
Comes old (taken.Wants member at count) new = new ≡ old
Comes old (taken.Bad member at) new = ⊥
Comes old taken.End new = AreRead old

abbrev pub IsNextOfAll : List (List LogRecord) → Option LogRecord → List (List LogRecord) → Type 0
IsNextOfAll old None new = AreRead old
IsNextOfAll old (Some r) new = (member : ℕ) × IsTaken member r old new

-- ---- rows

-- what the records of these transactions make of rows, in the order of their numbers
abbrev pub rows_by : (ℕ → Bool) → Rows → List (List LogRecord) → Rows
rows_by keeps rows lists = after_records rows (filter (λ (r : LogRecord). keeps r.tran) (by_lrsn (together lists)))

-- the row changes of a transaction count: it isn't pending, or it is one of those that have committed all the same
abbrev pub counts : (ℕ → Bool) → (ℕ → Bool) → ℕ → Bool
counts pending committed tran = not (pending tran) || committed tran

-- what was made of one record more: its row change is done, if it counts, and its transaction is found, if it is pending and this is a Commit record
pub record IsAdded (pending committed : ℕ → Bool) (old new : Made) (r : LogRecord) : Type 0 where
  pub rows_are : new.rows ≡ (if counts pending committed r.tran then after_body old.rows r.body else old.rows)
  pub found_are : (tran : ℕ) → set.contains nat_cmp new.found tran ≡ (set.contains nat_cmp old.found tran || (pending tran && has_commit (r ∷ []) tran))

-- what was made of the records of these logs: the rows, and which of the pending transactions have a Commit record among them
pub record IsMade (pending committed : ℕ → Bool) (lists : List (List LogRecord)) (m : Made) : Type 0 where
  pub rows_are : m.rows ≡ rows_by (counts pending committed) finite.empty lists
  pub found_are : (tran : ℕ) → set.contains nat_cmp m.found tran ≡ (pending tran && has_commit (together lists) tran)

-- the bytes are those of these logs, whose numbers don't fall, and which were surveyed so
pub record AreSurveyedAs (bytes : List (List ℕ)) (ends : List ℕ) (now : ℕ → Bool) (logs : List Log) : Type 0 where
  pub are : AreLogsOf bytes logs
  pub rise : NoneFalls logs
  pub ends_are : ends ≡ lengths_of logs
  pub pending_are : (tran : ℕ) → now tran ≡ is_pending tran false (all_records logs)
