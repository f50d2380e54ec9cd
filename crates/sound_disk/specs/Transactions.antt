-- The second clause of a sound disk, the records of transactions: drawn numbers differ, a transaction stands in one log, and each of its
-- records fits those before it.
use Rattle.std.specs.Prelude.{◌≡◌, ℕ, ◌-◌, ◌==◌, Bool, true, false, not, ◌&&◌, ◌||◌, if◌then◌else◌, List, [], ◌∷◌, ◌++◌, length, slice_get, Option, None, Some}
use Rattle.std.specs.List.{list_any, list_all, AllByRecursion}
use Rattle.ds_model.specs.declared.log.LogRecord.{LogRecord}
use Rattle.ds_model.specs.declared.log.RowChange.{RowChange}
use Rattle.ds_model.specs.declared.log.Body.{Body}
use Rattle.ds_model.specs.declared.log.Body.TheVariants as body
use Rattle.log_record.specs.declared.log.Log.{Log}
use Rattle.log_record.specs.Changes.{is_drawn, inverse}
use Rattle.log_trans.specs.declared.course.Course.{Course}
use Rattle.log_trans.specs.Courses.{new_course, after_body}
use Rattle.log_trans.specs.Damage.{body_fault}
use Rattle.restart_plan.specs.Given.{all_records}

-- ---- numbers

-- the numbers that were drawn for these records
abbrev pub drawn_numbers : List LogRecord → List ℕ
drawn_numbers [] = []
drawn_numbers (r ∷ rs) = if is_drawn r.body then r.lrsn ∷ drawn_numbers rs else drawn_numbers rs

abbrev pub is_among : ℕ → List ℕ → Bool
is_among n ns = list_any (λ m. m == n) ns

abbrev pub all_differ : List ℕ → Bool
all_differ [] = true
all_differ (n ∷ ns) = not (is_among n ns) && all_differ ns

-- ---- one log for each transaction

-- one of these records is the transaction's
abbrev pub speak_of : ℕ → List LogRecord → Bool
speak_of tran records = list_any (λ (r : LogRecord). r.tran == tran) records

-- no transaction of these records has one among the others; the number 0 is no transaction's
abbrev pub stands_apart : List LogRecord → List LogRecord → Bool
stands_apart records others = list_all (λ (r : LogRecord). (r.tran == 0) || not (speak_of r.tran others)) records

-- each log stands apart from those behind it
abbrev pub stand_apart : List Log → Bool
stand_apart [] = true
stand_apart (log ∷ logs) = stands_apart log.records (all_records logs) && stand_apart logs

-- ---- the records of one transaction

-- what the transaction's records among these come to
abbrev pub course_in : Course → ℕ → List LogRecord → Course
course_in c tran [] = c
course_in c tran (r ∷ rs) = course_in (if r.tran == tran then after_body c r r.body else c) tran rs

-- a transaction has the number of its first record
abbrev pub is_named : List LogRecord → LogRecord → Bool
is_named earlier r = (r.tran == 0) || speak_of r.tran earlier || (r.lrsn == r.tran)

abbrev pub InvertsBody : RowChange → Body → Type 0
InvertsBody change (body.RowChange c) = change ≡ inverse c
InvertsBody change (body.Compensation c undone) = ⊥
InvertsBody change (body.System patches) = ⊥
InvertsBody change body.Commit = ⊥
InvertsBody change body.Ended = ⊥
InvertsBody change (body.Checkpoint offset) = ⊥
InvertsBody change body.RestartEnd = ⊥

-- the change takes back that of the record
abbrev pub Inverts : RowChange → Option LogRecord → Type 0
Inverts change None = ⊥
Inverts change (Some r) = InvertsBody change r.body

-- a compensation takes back the last row change that isn't undone
abbrev pub TakesBack : Course → Body → Type 0
TakesBack c (body.RowChange change) = Unit {0}
TakesBack c (body.Compensation change undone) = Inverts change (slice_get c.undo (length c.undo - 1))
TakesBack c (body.System patches) = Unit {0}
TakesBack c body.Commit = Unit {0}
TakesBack c body.Ended = Unit {0}
TakesBack c (body.Checkpoint offset) = Unit {0}
TakesBack c body.RestartEnd = Unit {0}

-- the record may stand behind these of its log: it breaks nothing of what the transaction's records before it come to
pub record MayFollow (earlier : List LogRecord) (r : LogRecord) : Type 0 where
  pub named : is_named earlier r ≡ true
  pub fits : body_fault (course_in new_course r.tran earlier) r r.body ≡ None
  pub takes_back : TakesBack (course_in new_course r.tran earlier) r.body

-- each of the records may stand behind those before it
abbrev pub EachFollows : List LogRecord → List LogRecord → Type 0
EachFollows earlier [] = Unit {0}
EachFollows earlier (r ∷ rs) = MayFollow earlier r × EachFollows (earlier ++ r ∷ []) rs

-- ---- all logs

-- drawn numbers differ over all logs, and none is 0; a transaction stands in one log, and its records fit each other
pub record AreTransactions (logs : List Log) : Type 0 where
  pub numbers : all_differ (0 ∷ drawn_numbers (all_records logs)) ≡ true
  pub homes : stand_apart logs ≡ true
  pub follow : AllByRecursion (λ (l : Log). EachFollows [] l.records) logs
