-- What a group restart appends by the closings and the queue of its plan, and when these fit the logs.
use Rattle.std.specs.Prelude.{◌≡◌, ◌⊎◌, ℕ, ◌+◌, ◌<◌, ◌^◌, ◌==◌, Bool, true, false, ◌&&◌, if◌then◌else◌, List, [], ◌∷◌, length, reverse, map, filter, not, ◌||◌}
use Rattle.std.specs.List.{list_any, list_all, AllByRecursion}
use Rattle.ds_model.specs.declared.log.LogRecord.{LogRecord}
use Rattle.ds_model.specs.declared.log.RowChange.{RowChange}
use Rattle.ds_model.specs.declared.log.Body.{Body}
use Rattle.ds_model.specs.declared.log.Body.TheVariants as body
use Rattle.ds_model.specs.RecordBytes.{IsAllowed}
use Rattle.log_record.specs.declared.log.Log.{Log}
use Rattle.log_trans.specs.Numbers.{greatest}
use Rattle.log_merge.specs.Merging.{all_records}
use Rattle.page_images.specs.Images.{Images}
use Rattle.restart_plan.specs.declared.opened.Closing.{Closing}
use Rattle.restart_plan.specs.declared.opened.Undo.{Undo}
use Rattle.restart_plan.specs.Opened.{undo}
use Rattle.group_restart.specs.Records.{ended, compensation}
use Rattle.sound_disk.specs.Checkpoints.{is_in_pages, changes_pages, is_done}
use Rattle.sound_disk.specs.Laws.{last_number}
use Rattle.sound_appends.specs.Appends.{AppendsAll}
use Rattle.sound_plans.specs.Opens.{course_of}

-- ---- what is appended

abbrev pub Writes : Type 0
Writes = List (ℕ × LogRecord)

abbrev pub closing_writes : List Closing → Writes
closing_writes cs = map (λ (c : Closing). (c.member, ended c.lrsn c.tran)) cs

-- each compensation has the next number, and behind the last one of a transaction it has ended
abbrev pub undo_writes : ℕ → List Undo → Writes
undo_writes counter [] = []
undo_writes counter (u ∷ us) =
    (u.member, compensation u (counter + 1)) ∷ (if u.is_last then (u.member, ended (counter + 1) u.tran) ∷ undo_writes (counter + 1) us else undo_writes (counter + 1) us)

-- ---- logs by their members

abbrev pub has_log : List Log → ℕ → Bool
has_log logs member = list_any (λ (l : Log). l.member == member) logs

abbrev pub records_for : List Log → ℕ → List LogRecord
records_for [] member = []
records_for (log ∷ logs) member = if log.member == member then log.records else records_for logs member

-- how many bytes the whole records of the member's log have
abbrev pub length_for : List Log → ℕ → ℕ
length_for [] member = 0
length_for (log ∷ logs) member = if log.member == member then log.length else length_for logs member

-- ---- closings

-- all row changes of the transaction are undone, and the number is the last of its log
pub record CanClose (logs : List Log) (c : Closing) : Type 0 where
  pub has : has_log logs c.member ≡ true
  pub number : c.lrsn ≡ last_number 0 (records_for logs c.member)
  pub undone : length (course_of (records_for logs c.member) c.tran).undo ≡ 0
  pub some : (length (course_of (records_for logs c.member) c.tran).undone == 0) ≡ false
  pub allowed : IsAllowed (ended c.lrsn c.tran)

abbrev pub ClosingsFit : List Log → List Closing → Type 0
ClosingsFit logs cs = AllByRecursion (CanClose logs) cs

-- ---- the queue

-- the changes of one transaction as they are to be undone, in the order of its log; the first of them is undone last
abbrev pub undo_before : ℕ → ℕ → Bool → ℕ → Body → List Undo → List Undo
undo_before member tran is_last lrsn (body.RowChange change) us = undo member tran lrsn is_last change ∷ us
undo_before member tran is_last lrsn (body.Compensation change undone) us = us
undo_before member tran is_last lrsn (body.System patches) us = us
undo_before member tran is_last lrsn body.Commit us = us
undo_before member tran is_last lrsn body.Ended us = us
undo_before member tran is_last lrsn (body.Checkpoint offset) us = us
undo_before member tran is_last lrsn body.RestartEnd us = us

abbrev pub undos : ℕ → ℕ → Bool → List LogRecord → List Undo
undos member tran is_last [] = []
undos member tran is_last (r ∷ rs) = undo_before member tran is_last r.lrsn r.body (undos member tran false rs)

-- a row change of the transaction
pub record IsOwnChange (tran : ℕ) (r : LogRecord) : Type 0 where
  pub allowed : IsAllowed r
  pub tran_is : r.tran ≡ tran
  pub change : RowChange
  pub body_is : r.body ≡ body.RowChange change

-- these are all that is to be undone of the transaction, the last change first
pub record IsQueueOf (logs : List Log) (member tran : ℕ) (us : List Undo) : Type 0 where
  pub has : has_log logs member ≡ true
  pub uncommitted : (course_of (records_for logs member) tran).is_committed ≡ false
  pub own : AllByRecursion (IsOwnChange tran) (course_of (records_for logs member) tran).undo
  pub is : us ≡ reverse (undos member tran true (course_of (records_for logs member) tran).undo)

abbrev pub is_of : ℕ → ℕ → Undo → Bool
is_of member tran u = (u.member == member) && (u.tran == tran)

-- nothing is to be undone of the transaction
abbrev pub IsSettled : List Log → ℕ → ℕ → Type 0
IsSettled logs member tran = ((course_of (records_for logs member) tran).is_committed ≡ true) ⊎ ((course_of (records_for logs member) tran).undo ≡ [])

-- of each transaction the queue has all that is to be undone
abbrev pub QueueFits : List Log → List Undo → Type 0
QueueFits logs us = (member tran : ℕ) → ((filter (is_of member tran) us ≡ []) × IsSettled logs member tran) ⊎ IsQueueOf logs member tran (filter (is_of member tran) us)

-- ---- laws

abbrev pub ClosingsAppend : Type 0
ClosingsAppend = (logs : List Log) (cs : List Closing) → ClosingsFit logs cs → (after : List Log) × AppendsAll logs (closing_writes cs) after

abbrev pub QueueAppends : Type 0
QueueAppends = (logs : List Log) (us : List Undo) → QueueFits logs us → greatest (all_records logs) + length us < 2 ^ 80
    → (after : List Log) × AppendsAll logs (undo_writes (greatest (all_records logs)) us) after

-- where nothing is left in the queue, nothing is left to be undone
abbrev pub EmptyQueueSettles : Type 0
EmptyQueueSettles = (logs : List Log) → QueueFits logs [] → (member tran : ℕ) → IsSettled logs member tran

-- before a Checkpoint that is appended nothing needs to be read again, where all transactions of the log are settled and its records are in the pages of the disk
abbrev pub SettledIsDone : Type 0
SettledIsDone = (at : Images) (logs : List Log) (member : ℕ) → ((tran : ℕ) → IsSettled logs member tran) → list_all (λ (r : LogRecord). not (changes_pages r) || is_in_pages at r) (records_for logs member) ≡ true
    → list_all (is_done at (records_for logs member)) (records_for logs member) ≡ true
