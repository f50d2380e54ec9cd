-- What the plan of what was read of the logs of a sound disk comes to for the logs whole.
use Rattle.std.specs.Prelude.{◌≡◌, ℕ, ◌-◌, ◌==◌, true, false, List, length, map, slice_get, Option, None, Some}
use Rattle.std.specs.List.{list_any, AllByRecursion}
use Rattle.ds_disk.specs.Contents.{Contents}
use Rattle.ds_model.specs.declared.log.LogRecord.{LogRecord}
use Rattle.log_record.specs.declared.log.Log.{Log}
use Rattle.log_trans.specs.Numbers.{greatest}
use Rattle.log_merge.specs.Merging.{all_records}
use Rattle.restart_plan.specs.declared.opened.Closing.{Closing}
use Rattle.restart_plan.specs.declared.opened.Undo.{Undo}
use Rattle.restart_plan.specs.declared.plan.Plan.{Plan}
use Rattle.restart_plan.specs.Ends.{ends_of, end_of}
use Rattle.restart_plan.specs.Opened.{is_end}
use Rattle.restart_plan.specs.Tails.{tails_of}
use Rattle.group_restart.specs.Machine.{Restart}
use Rattle.group_restart.specs.Course.{plan_read, begin_undo}
use Rattle.sound_disk.specs.Laws.{records_of}
use Rattle.sound_disk.specs.Sound.{IsSoundWith}
use Rattle.sound_plans.specs.Courses.{IsDue}
use Rattle.sound_plans.specs.Ends.{ToEnd, EndAll}
use Rattle.sound_plans.specs.Queues.{has_log, records_for, length_for, ClosingsFit, QueueFits}
use Rattle.sound_reads.specs.Reads.{AreReadOf}

-- ---- what is closed and undone

abbrev pub ClosingsReadFit : Type 0
ClosingsReadFit = (c : Contents) (logs reads : List Log) → IsSoundWith c logs → AreReadOf logs reads → ClosingsFit logs (plan_read reads).closings

abbrev pub QueueReadFits : Type 0
QueueReadFits = (c : Contents) (logs reads : List Log) → IsSoundWith c logs → AreReadOf logs reads → QueueFits logs (plan_read reads).undo

abbrev pub members_of : List Log → List ℕ
members_of logs = map (λ (l : Log). l.member) logs

-- other logs of the same members with the same records, as behind the cuts of their tails
pub record HaveSameRecords (logs others : List Log) : Type 0 where
  pub members : members_of logs ≡ members_of others
  pub records : records_of logs ≡ records_of others

-- what fits logs fits such others too
pub record FitsGoOn : Type 0 where
  pub closings : (logs others : List Log) (cs : List Closing) → HaveSameRecords logs others → ClosingsFit logs cs → ClosingsFit others cs
  pub queue : (logs others : List Log) (us : List Undo) → HaveSameRecords logs others → QueueFits logs us → QueueFits others us

-- ---- where logs end

abbrev pub TailsAreRead : Type 0
TailsAreRead = (logs reads : List Log) → AreReadOf logs reads → (plan_read reads).tails ≡ tails_of logs

abbrev pub EndsAreRead : Type 0
EndsAreRead = (logs reads : List Log) → AreReadOf logs reads → (plan_read reads).ends ≡ ends_of logs

-- so the plan knows the length of each log
abbrev pub EndsAreKnown : Type 0
EndsAreKnown = (c : Contents) (logs reads : List Log) (member : ℕ) → IsSoundWith c logs → AreReadOf logs reads → has_log logs member ≡ true → end_of (plan_read reads).ends member ≡ length_for logs member

-- there is no record, or the last one is a RestartEnd of the version in which records are written
abbrev pub EndsAt : Option LogRecord → Type 0
EndsAt None = Unit {0}
EndsAt (Some last) = is_end last ≡ true

-- members of logs; and the log of each other member has an end, if it has records
pub record EndingsFit (logs : List Log) (members : List ℕ) : Type 0 where
  pub has : AllByRecursion (λ (m : ℕ). has_log logs m ≡ true) members
  pub others : (member : ℕ) → list_any (λ (m : ℕ). m == member) members ≡ false → EndsAt (slice_get (records_for logs member) (length (records_for logs member) - 1))

abbrev pub EndingsReadFit : Type 0
EndingsReadFit = (c : Contents) (logs reads : List Log) → IsSoundWith c logs → AreReadOf logs reads → EndingsFit logs (plan_read reads).endings

-- ---- the undo

abbrev pub NumberIsRead : Type 0
NumberIsRead = (c : Contents) (logs reads : List Log) → IsSoundWith c logs → AreReadOf logs reads → (plan_read reads).greatest.lrsn ≡ greatest (all_records logs)

-- the restart closes and undoes what the plan says, behind the plan's greatest number
pub record GoesBy (p : Plan) (h : Restart) : Type 0 where
  pub closings : h.plan.closings ≡ p.closings
  pub undo : h.plan.undo ≡ p.undo
  pub number : h.plan.greatest.lrsn ≡ p.greatest.lrsn

abbrev pub UndoOfReadBegins : Type 0
UndoOfReadBegins = (ts : ToEnd) (c : Contents) (logs reads : List Log) (h : Restart) → IsSoundWith c logs → AreReadOf logs reads → GoesBy (plan_read reads) h → EndAll ts (plan_read reads).closings (plan_read reads).undo logs → IsDue ts (begin_undo h) logs
