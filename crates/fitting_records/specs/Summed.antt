-- What the records so far come to, of those that are taken of all logs in the order of their numbers.
use Rattle.std.specs.Prelude.{◌≡◌, ℕ, ◌-◌, ◌≤◌, max, Bool, true, false, not, ◌&&◌, ◌||◌, List, [], ◌∷◌, length, map, slice_get, slice_set, slice_index_or}
use Rattle.std.specs.List.{list_any}
use Rattle.ds_model.specs.declared.log.LogRecord.{LogRecord}
use Rattle.log_trans.specs.Numbers.{greatest}
use Rattle.restart_plan.specs.Opened.{is_end}
use Rattle.restart_plan.specs.Renewal.{is_old, is_ended}
use Rattle.fitting_records.specs.declared.passing.Passing.{Passing}
use Rattle.ds_model.specs.Logs.{by_lrsn}
use Rattle.log_head.specs.Heads.{HeadState}
use Rattle.log_heads.specs.Logs.{left, together, NoneFalls}
use Rattle.disk_walk.specs.Walks.{Stand}
use Rattle.fitting_records.specs.declared.sums.Sums.{Sums}
use Rattle.fitting_records.specs.declared.summary.Summary.{Summary}
use Rattle.fitting_records.specs.Passings.{nothing_passed, may_pass, passed}
use Rattle.fitting_records.specs.Passed.{all_of, ArePassed}

-- ---- renewal

-- of logs of which these have a record of version 1, and these end with a RestartEnd of version 2, one asks for renewal
abbrev pub any_asks : List Bool → List Bool → Bool
any_asks [] ends = false
any_asks (o ∷ olds) [] = false
any_asks (o ∷ olds) (e ∷ ends) = (o && not e) || any_asks olds ends

abbrev pub has_old : List LogRecord → Bool
has_old records = list_any (λ (r : LogRecord). is_old r) records

abbrev pub has_ended : List LogRecord → Bool
has_ended records = is_ended (slice_get records (length records - 1))

-- ---- one record more

pub record IsNothing (s : Sums) : Type 0 where
  pub passing_is : s.passing ≡ nothing_passed
  pub greatest_is : s.greatest ≡ 0
  pub olds : (n : ℕ) → slice_index_or s.olds.items n false ≡ false
  pub ends : (n : ℕ) → slice_index_or s.ends.items n false ≡ false
  pub olds_count : length s.olds.items ≡ 32
  pub ends_count : length s.ends.items ≡ 32

-- the record fits those that were passed
pub record IsPassedOn (old new : Passing) (member : ℕ) (r : LogRecord) : Type 0 where
  pub may : may_pass old member r ≡ true
  pub passing_is : new ≡ passed old member r

pub record IsAdded (old new : Sums) (member : ℕ) (r : LogRecord) : Type 0 where
  pub some : 1 ≤ member
  pub fitted : new.fits ≡ true → old.fits ≡ true
  pub passed_on : new.fits ≡ true → IsPassedOn old.passing new.passing member r
  pub greatest_is : new.greatest ≡ max old.greatest r.lrsn
  pub olds_are : new.olds.items ≡ slice_set old.olds.items (member - 1) (slice_index_or old.olds.items (member - 1) false || is_old r)
  pub ends_are : new.ends.items ≡ slice_set old.ends.items (member - 1) (is_end r)

-- ---- all of them

-- these records were taken, log by log these
pub record AreSummed (s : Sums) (walked : List LogRecord) (lists : List (List LogRecord)) : Type 0 where
  pub passed : s.fits ≡ true → ArePassed s.passing walked lists
  pub greatest_is : s.greatest ≡ greatest (all_of lists)
  pub olds_are : s.olds.items ≡ map has_old lists
  pub ends_are : s.ends.items ≡ map has_ended lists

-- so the records that are left of all logs
abbrev pub AreSummedOf : List (List ℕ) → List HeadState → Sums → Type 0
AreSummedOf logs heads s = Stand logs heads → NoneFalls (left logs heads) → length (left logs heads) ≡ 32 → AreSummed s (by_lrsn (together (left logs heads))) (left logs heads)

-- what is told of them
pub record IsSummedUp (s : Sums) (it : Summary) : Type 0 where
  pub fits_is : it.fits ≡ s.fits
  pub greatest_is : it.greatest ≡ s.greatest
  pub renews_is : it.renews ≡ any_asks s.olds.items s.ends.items
  pub counts_are : it.counts.items ≡ s.counts.items
