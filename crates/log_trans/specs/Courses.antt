-- What the records of a log come to for its transactions.
use Rattle.std.specs.Prelude.{ℕ, ◌-◌, ◌==◌, Bool, true, false, not, ◌&&◌, if◌then◌else◌, List, [], ◌∷◌, ◌++◌, length, take, drop, map, filter, slice_get, Option, None, Some}
use Rattle.std.specs.Ordering.{nat_cmp}
use Rattle.std.specs.FinMap as finite
use Rattle.ds_model.specs.declared.log.LogRecord.{LogRecord}
use Rattle.ds_model.specs.declared.log.RowChange.{RowChange}
use Rattle.ds_model.specs.declared.log.Body.{Body}
use Rattle.ds_model.specs.declared.log.Body.TheVariants as body
use Rattle.log_trans.specs.declared.course.Course.{Course}
use Rattle.log_trans.specs.declared.opened.OpenTran.{OpenTran}

-- ---- one transaction

abbrev pub new_course : Course
new_course = record { undo = []; undone = []; is_committed = false; is_ended = false }

-- the row change that was made last, and isn't undone, has this number
abbrev pub has_number : ℕ → Option LogRecord → Bool
has_number n None = false
has_number n (Some r) = r.lrsn == n

abbrev pub is_next : ℕ → List LogRecord → Bool
is_next n undo = has_number n (slice_get undo (length undo - 1))

-- it is undone
abbrev pub undone_one : Course → Course
undone_one c = record {
  undo = take (length c.undo - 1) c.undo;
  undone = c.undone ++ drop (length c.undo - 1) c.undo;
  is_committed = c.is_committed;
  is_ended = c.is_ended;
}

-- the record of a row change
abbrev pub row_record : LogRecord → RowChange → LogRecord
row_record r change = record { version = r.version; lrsn = r.lrsn; tran = r.tran; body = body.RowChange change }

abbrev pub changed : Course → LogRecord → Course
changed c r = record {
  undo = c.undo ++ r ∷ [];
  undone = c.undone;
  is_committed = c.is_committed;
  is_ended = c.is_ended;
}

abbrev pub committed : Course → Course
committed c = record { undo = c.undo; undone = c.undone; is_committed = true; is_ended = c.is_ended }

abbrev pub ended : Course → Course
ended c = record { undo = c.undo; undone = c.undone; is_committed = c.is_committed; is_ended = true }

-- after a record of the transaction; a compensation undoes the last row change that isn't undone
abbrev pub after_body : Course → LogRecord → Body → Course
after_body c r (body.RowChange change) = changed c (row_record r change)
after_body c r (body.Compensation change undone) = if is_next undone c.undo then undone_one c else c
after_body c r (body.System patches) = c
after_body c r body.Commit = committed c
after_body c r body.Ended = ended c
after_body c r (body.Checkpoint offset) = c
after_body c r body.RestartEnd = c

-- ---- all transactions, by their numbers

abbrev pub Courses : Type 0
Courses = finite.FinMap nat_cmp Course

abbrev pub course_of : Option Course → Course
course_of None = new_course
course_of (Some c) = c

-- a record without a transaction says nothing of one
abbrev pub with_record : Courses → LogRecord → Courses
with_record courses r =
    if r.tran == 0 then courses else finite.insert courses r.tran (after_body (course_of (finite.get courses r.tran)) r r.body)

abbrev pub courses_from : Courses → List LogRecord → Courses
courses_from courses [] = courses
courses_from courses (r ∷ rs) = courses_from (with_record courses r) rs

-- the transactions of which the records speak
abbrev pub courses_of : List LogRecord → Courses
courses_of records = courses_from finite.empty records

-- ---- those that are open

abbrev pub is_open : Course → Bool
is_open c = not c.is_committed && not c.is_ended

abbrev pub open_tran : ℕ × Course → OpenTran
open_tran e = record { id = e.0; undo = e.1.undo; undone = e.1.undone }

-- the open ones among these, in their order
abbrev pub open_among : List (ℕ × Course) → List OpenTran
open_among entries = map open_tran (filter (λ (e : ℕ × Course). is_open e.1) entries)

-- those with neither a Commit nor an Ended record, in the order of their numbers
abbrev pub open_trans : List LogRecord → List OpenTran
open_trans records = open_among (finite.entries (courses_of records))
