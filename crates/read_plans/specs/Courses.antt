-- What the records that were read of a log tell of a transaction, beside all records of the log.
use Rattle.std.specs.Prelude.{◌≡◌, ◌⊎◌, ℕ, true, List, []}
use Rattle.ds_disk.specs.Contents.{Contents}
use Rattle.ds_model.specs.declared.log.LogRecord.{LogRecord}
use Rattle.log_record.specs.declared.log.Log.{Log}
use Rattle.log_trans.specs.Courses.{new_course}
use Rattle.sound_disk.specs.Settled.{has_ended}
use Rattle.sound_disk.specs.Sound.{IsSoundWith}
use Rattle.sound_disk.specs.Transactions.{drawn_numbers, all_differ, EachFollows}
use Rattle.sound_plans.specs.Opens.{course_of}
use Rattle.sound_plans.specs.Queues.{records_for}
use Rattle.sound_reads.specs.Reads.{AreReadOf}

-- the transaction has a Commit among these records, or nothing of it is to be undone
abbrev pub Settles : List LogRecord → ℕ → Type 0
Settles records tran = ((course_of records tran).is_committed ≡ true) ⊎ ((course_of records tran).undo ≡ [])

-- where none of its row changes is open
abbrev pub EndedIsSettled : Type 0
EndedIsSettled = (records : List LogRecord) (tran : ℕ) → EachFollows [] records → all_differ (drawn_numbers records) ≡ true → has_ended records tran ≡ true → Settles records tran

-- what was read tells the same of the transaction as all records; or it tells nothing, and the transaction is settled
abbrev pub Tells : List LogRecord → List LogRecord → ℕ → Type 0
Tells all read tran = (course_of read tran ≡ course_of all tran) ⊎ ((course_of read tran ≡ new_course) × Settles all tran)

abbrev pub CoursesAreRead : Type 0
CoursesAreRead = (c : Contents) (logs reads : List Log) (member tran : ℕ) → IsSoundWith c logs → AreReadOf logs reads → Tells (records_for logs member) (records_for reads member) tran
