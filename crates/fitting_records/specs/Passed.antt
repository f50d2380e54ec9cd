-- What is known of logs of which these records were passed, each of which may pass.
use Rattle.std.specs.Prelude.{◌≡◌, ℕ, zero, suc, ◌-◌, ◌≤◌, Bool, true, not, ◌&&◌, List, [], ◌∷◌, ◌++◌, length, slice_index_or, map, Some, None}
use Rattle.std.specs.List.{AllByRecursion}
use Rattle.std.specs.FinMap as finite
use Rattle.ds_model.specs.declared.log.LogRecord.{LogRecord}
use Rattle.ds_model.specs.Logs.{has_commit}
use Rattle.log_record.specs.declared.log.Log.{Log}
use Rattle.log_trans.specs.Courses.{new_course}
use Rattle.log_trans.specs.Numbers.{greatest}
use Rattle.sound_disk.specs.Settled.{is_row_change}
use Rattle.sound_disk.specs.Transactions.{drawn_numbers, is_among, all_differ, speak_of, course_in, EachFollows, AreTransactions}
use Rattle.fitting_records.specs.declared.passing.OpenTran.{OpenTran}
use Rattle.fitting_records.specs.declared.passing.Passing.{Passing}
use Rattle.fitting_records.specs.Passings.{nothing_passed, may_pass, passed}
use Rattle.fitting_records.specs.Standings.{standing}

-- ---- the records of each log

abbrev pub list_at : List (List LogRecord) → ℕ → List LogRecord
list_at lists k = slice_index_or lists k []

abbrev pub all_of : List (List LogRecord) → List LogRecord
all_of [] = []
all_of (l ∷ ls) = l ++ all_of ls

-- one record more of the log at this place
abbrev pub with_record : List (List LogRecord) → ℕ → LogRecord → List (List LogRecord)
with_record [] k r = []
with_record (l ∷ ls) zero r = (l ++ r ∷ []) ∷ ls
with_record (l ∷ ls) (suc k) r = l ∷ with_record ls k r

-- ---- rows are changed before the Commit

-- the record changes no row of a transaction that has committed by then
abbrev pub is_early : List LogRecord → LogRecord → Bool
is_early earlier r = not (is_row_change r.body && has_commit earlier r.tran)

abbrev pub are_early : List LogRecord → List LogRecord → Bool
are_early earlier [] = true
are_early earlier (r ∷ rs) = is_early earlier r && are_early (earlier ++ r ∷ []) rs

-- ---- what is known

-- the transaction is open, and its records stand in this log and come to this
pub record IsOpen (lists : List (List LogRecord)) (tran : ℕ) (o : OpenTran) : Type 0 where
  pub some : 1 ≤ tran
  pub home : 1 ≤ o.home
  pub speaks : speak_of tran (list_at lists (o.home - 1)) ≡ true
  pub standing_is : o.standing ≡ standing (course_in new_course tran (list_at lists (o.home - 1)))

-- the records of the logs so far, in the order in which they were passed and log by log: they fit each other
pub record ArePassed (s : Passing) (walked : List LogRecord) (lists : List (List LogRecord)) : Type 0 where
  pub differ : all_differ (0 ∷ drawn_numbers (all_of lists)) ≡ true
  pub last_is : (n : ℕ) → is_among n (drawn_numbers (all_of lists)) ≡ true → n ≤ s.last
  pub greatest_is : greatest (all_of lists) ≤ s.greatest
  pub known : (t i : ℕ) → speak_of t (list_at lists i) ≡ true → t ≤ s.last
  pub homes : (t i j : ℕ) → 1 ≤ t → speak_of t (list_at lists i) ≡ true → speak_of t (list_at lists j) ≡ true → i ≡ j
  pub opened : (t : ℕ) (o : OpenTran) → finite.get s.trans t ≡ Some o → IsOpen lists t o
  pub follow : AllByRecursion (EachFollows []) lists
  pub commits : (t : ℕ) → has_commit walked t ≡ true → (1 ≤ t) × (t ≤ s.last) × (finite.get s.trans t ≡ None)
  pub early : are_early [] walked ≡ true

-- ---- what passing comes to

abbrev pub NothingIsPassed : Type 0
NothingIsPassed = (lists : List (List LogRecord)) → AllByRecursion (λ (l : List LogRecord). l ≡ []) lists → ArePassed nothing_passed [] lists

-- a record that may pass leaves such records again
abbrev pub PassingGoesOn : Type 0
PassingGoesOn = (s : Passing) (walked : List LogRecord) (lists : List (List LogRecord)) (member : ℕ) (r : LogRecord) → ArePassed s walked lists → may_pass s member r ≡ true → 1 ≤ member → member ≤ length lists
    → ArePassed (passed s member r) (walked ++ r ∷ []) (with_record lists (member - 1) r)

-- and where all records were passed the logs keep to the clause
abbrev pub PassedAreTransactions : Type 0
PassedAreTransactions = (s : Passing) (walked : List LogRecord) (logs : List Log) → ArePassed s walked (map (λ (l : Log). l.records) logs) → AreTransactions logs
