-- Which transactions of a log a group restart finds open, and what is left of them.
use Rattle.std.specs.Prelude.{◌≡◌, ◌≢◌, ◌⊎◌, ℕ, ◌==◌, true, false, List, [], length}
use Rattle.std.specs.List.{AllByRecursion}
use Rattle.ds_model.specs.declared.log.LogRecord.{LogRecord}
use Rattle.ds_model.specs.RecordBytes.{IsAllowed}
use Rattle.log_trans.specs.declared.course.Course.{Course}
use Rattle.log_trans.specs.declared.opened.OpenTran.{OpenTran}
use Rattle.log_trans.specs.Courses.{new_course, open_trans}
use Rattle.sound_disk.specs.Settled.{has_ended}
use Rattle.sound_disk.specs.Transactions.{speak_of, course_in, EachFollows}

abbrev pub course_of : List LogRecord → ℕ → Course
course_of records tran = course_in new_course tran records

-- the transaction has neither a Commit nor an Ended record among these, and these row changes of it are to be undone
pub record IsOpenTran (records : List LogRecord) (t : OpenTran) : Type 0 where
  pub numbered : t.id ≢ 0
  pub spoken : speak_of t.id records ≡ true
  pub uncommitted : (course_of records t.id).is_committed ≡ false
  pub undo_is : t.undo ≡ (course_of records t.id).undo
  pub undone_is : t.undone ≡ (course_of records t.id).undone

abbrev pub OpensTell : Type 0
OpensTell = (records : List LogRecord) → AllByRecursion (IsOpenTran records) (open_trans records)

-- where nothing is to be undone any more, something was undone
abbrev pub SomeIsUndone : Type 0
SomeIsUndone = (records : List LogRecord) (t : OpenTran) → AllByRecursion IsAllowed records → EachFollows [] records → IsOpenTran records t → length t.undo ≡ 0 → (length t.undone == 0) ≡ false

-- a transaction that has committed, or of which nothing is left to be undone, has ended
abbrev pub EndsWhereNothingIsLeft : Type 0
EndsWhereNothingIsLeft = (records : List LogRecord) (tran : ℕ) → ((course_of records tran).is_committed ≡ true) ⊎ (length (course_of records tran).undo ≡ 0) → has_ended records tran ≡ true
