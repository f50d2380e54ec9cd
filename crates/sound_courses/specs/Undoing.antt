-- The undo of a group restart over a sound disk, call by call.
use Rattle.std.specs.Prelude.{◌≡◌, ◌⊎◌, ℕ, ◌+◌, ◌<◌, ◌^◌, false, List, [], ◌∷◌, length}
use Rattle.ds_base.specs.Pages.{same_page}
use Rattle.ds_base.specs.declared.names.PageId.{PageId}
use Rattle.ds_disk.specs.Contents.{Contents}
use Rattle.ds_disk.specs.Pages.{page_at}
use Rattle.log_record.specs.declared.log.Log.{Log}
use Rattle.log_trans.specs.Numbers.{greatest}
use Rattle.log_merge.specs.Merging.{all_records}
use Rattle.restart_plan.specs.declared.opened.Undo.{Undo}
use Rattle.group_restart.specs.declared.calls.State.TheVariants as state
use Rattle.group_restart.specs.declared.stage.Stage.{Stage}
use Rattle.group_restart.specs.declared.stage.Stage.TheVariants as stage
use Rattle.group_restart.specs.Machine.{Restart}
use Rattle.group_restart.specs.Disk.{with_page as with_hand}
use Rattle.group_restart.specs.Undo.{undone_page}
use Rattle.group_restart.specs.Course.{Next, begin_renewal, begin_undo, take_done}
use Rattle.sound_disk.specs.Versions.{last_images}
use Rattle.sound_plans.specs.Courses.{Owes, OwesNothing, ClosesNext, UndoesNext}
use Rattle.sound_plans.specs.Ends.{ToEnd, EndAll}
use Rattle.sound_plans.specs.Queues.{ClosingsFit, QueueFits}
use Rattle.sound_restarts.specs.Redo.{IsSoundNow, with_page, IsLast}
use Rattle.sound_restarts.specs.Undo.{page_of, page_for, CanUndo}
use Rattle.sound_courses.specs.Standing.{Stands, Rests, HasNumbers, with_appended, StopsSound}

-- ---- before a call

-- the Ended of a transaction of which nothing is to be undone is appended
pub record Closes (ts : ToEnd) (member : ℕ) (h : Restart) (c : Contents) (logs : List Log) : Type 0 where
  pub rests : Rests h c logs
  pub due : ClosesNext ts h member logs
  pub numbers : HasNumbers h

-- the page of the first change that is to be undone is read
pub record ReadsNext (ts : ToEnd) (page : PageId) (h : Restart) (c : Contents) (logs : List Log) : Type 0 where
  pub rests : Rests h c logs
  pub owes : Owes ts [] h.plan.undo h.counter logs
  pub numbers : HasNumbers h
  pub first : Undo
  pub rest : List Undo
  pub undo_is : h.plan.undo ≡ first ∷ rest
  pub page_is : page ≡ page_of first

-- its compensation is appended, and the page at hand is the one of the disk with the row before the change
pub record Compensates (ts : ToEnd) (member : ℕ) (page : PageId) (h : Restart) (c : Contents) (logs : List Log) : Type 0 where
  pub rests : Rests h c logs
  pub due : UndoesNext ts h member logs
  pub can : CanUndo c logs due.first
  pub page_is : page ≡ page_of due.first
  pub hand_is : h.page ≡ undone_page due.first.change h.counter (page_for c due.first)
  pub numbers : HasNumbers h

-- the page at hand is written, which is as all records leave it, as all other pages of the disk are
pub record WritesBack (ts : ToEnd) (page : PageId) (h : Restart) (c : Contents) (logs : List Log) : Type 0 where
  pub stands : Stands h c logs
  pub others : (id : PageId) → same_page page id ≡ false → IsLast c logs id
  pub hand_is : h.page ≡ last_images logs page
  pub owes : Owes ts [] h.plan.undo h.counter logs
  pub numbers : HasNumbers h

-- before the call of this stage
abbrev pub UndoIn : ToEnd → Stage → Restart → Contents → List Log → Type 0
UndoIn ts stage.ReadLog h c logs = ⊥
UndoIn ts (stage.CutTail tail) h c logs = ⊥
UndoIn ts (stage.RedoRead page) h c logs = ⊥
UndoIn ts (stage.RedoWrite page) h c logs = ⊥
UndoIn ts (stage.CloseAppend member) h c logs = Closes ts member h c logs
UndoIn ts (stage.UndoRead page) h c logs = ReadsNext ts page h c logs
UndoIn ts (stage.UndoAppend member page) h c logs = Compensates ts member page h c logs
UndoIn ts (stage.UndoWrite page) h c logs = WritesBack ts page h c logs
UndoIn ts (stage.RenewRead page) h c logs = ⊥
UndoIn ts (stage.RenewWrite page) h c logs = ⊥
UndoIn ts (stage.EndAppend member) h c logs = ⊥
UndoIn ts stage.End h c logs = ⊥

-- nothing is to be undone any more, and pages of version 1 are looked for next
pub record HasUndone (ts : ToEnd) (n : Next) (c : Contents) (logs : List Log) : Type 0 where
  pub behind : Restart
  pub goes : n ≡ begin_renewal behind
  pub rests : Rests behind c logs
  pub nothing : OwesNothing ts behind.plan.undo behind.counter logs

-- the undo goes on with the next call, or has come to its end
abbrev pub UndoLeads : ToEnd → Next → Contents → List Log → Type 0
UndoLeads ts n c logs = ((n.1 ≡ state.Going) × UndoIn ts n.0.stage n.0 c logs) ⊎ HasUndone ts n c logs

-- ---- its calls

-- all pages are brought forward, by a plan whose closings and queue fit the logs, and there are numbers for it; each of these transactions has an Ended, or
-- the plan takes it
pub record BeginsUndo (ts : ToEnd) (h : Restart) (c : Contents) (logs : List Log) : Type 0 where
  pub rests : Rests h c logs
  pub closings : ClosingsFit logs h.plan.closings
  pub queue : QueueFits logs h.plan.undo
  pub number : h.plan.greatest.lrsn ≡ greatest (all_records logs)
  pub numbers : greatest (all_records logs) + length h.plan.undo < 2 ^ 80
  pub ends : EndAll ts h.plan.closings h.plan.undo logs

abbrev pub UndoBegins : Type 0
UndoBegins = (ts : ToEnd) (h : Restart) (c : Contents) (logs : List Log) → BeginsUndo ts h c logs → UndoLeads ts (begin_undo h) c logs

-- an Ended, or what is left of it, leaves a sound disk, and the undo goes on there
abbrev pub ClosingGoes : Type 0
ClosingGoes = (ts : ToEnd) (h : Restart) (member : ℕ) (c : Contents) (logs : List Log) → UndoIn ts (stage.CloseAppend member) h c logs
    → StopsSound h member c × ((after : List Log) × UndoLeads ts (take_done h (stage.CloseAppend member)) (with_appended h member c) after)

-- the page is read, where no field is in the way of the undo, and there is a number for it
abbrev pub UndoReads : Type 0
UndoReads = (ts : ToEnd) (h : Restart) (page : PageId) (c : Contents) (logs : List Log) → UndoIn ts (stage.UndoRead page) h c logs
    → UndoLeads ts (take_done (with_hand h (page_at c.pages page)) (stage.UndoRead page)) c logs

-- the compensation, and the Ended behind the last of a transaction, or what is left of them, leave a sound disk
abbrev pub UndoAppends : Type 0
UndoAppends = (ts : ToEnd) (h : Restart) (member : ℕ) (page : PageId) (c : Contents) (logs : List Log) → UndoIn ts (stage.UndoAppend member page) h c logs
    → StopsSound h member c × ((after : List Log) × UndoLeads ts (take_done h (stage.UndoAppend member page)) (with_appended h member c) after)

-- and so does the page that is written behind them
abbrev pub UndoWrites : Type 0
UndoWrites = (ts : ToEnd) (h : Restart) (page : PageId) (c : Contents) (logs : List Log) → UndoIn ts (stage.UndoWrite page) h c logs
    → IsSoundNow (with_page c page h.page) logs × UndoLeads ts (take_done h (stage.UndoWrite page)) (with_page c page h.page) logs
