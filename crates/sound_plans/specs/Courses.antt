-- A group restart that has brought its pages forward appends what fits the logs, call by call.
use Rattle.std.specs.Prelude.{◌≡◌, ℕ, ◌+◌, ◌<◌, ◌^◌, true, List, [], ◌∷◌, map}
use Rattle.std.specs.List.{AllByRecursion}
use Rattle.ds_base.specs.declared.names.PageId.{PageId}
use Rattle.ds_model.specs.declared.log.LogRecord.{LogRecord}
use Rattle.ds_model.specs.RecordBytes.{IsAllowed}
use Rattle.log_record.specs.declared.log.Log.{Log}
use Rattle.log_trans.specs.Numbers.{greatest}
use Rattle.log_merge.specs.Merging.{all_records}
use Rattle.restart_plan.specs.declared.opened.Closing.{Closing}
use Rattle.restart_plan.specs.declared.opened.Undo.{Undo}
use Rattle.restart_plan.specs.Ends.{end_of}
use Rattle.group_restart.specs.declared.calls.State.TheVariants as state
use Rattle.group_restart.specs.declared.stage.Stage.{Stage}
use Rattle.group_restart.specs.declared.stage.Stage.TheVariants as stage
use Rattle.group_restart.specs.Machine.{Restart}
use Rattle.group_restart.specs.Records.{ended, ending}
use Rattle.group_restart.specs.Undo.{undoing}
use Rattle.group_restart.specs.Course.{Next, begin_undo, take_done}
use Rattle.sound_appends.specs.Appends.{AppendsAll}
use Rattle.sound_plans.specs.Ends.{ToEnd, EndAll}
use Rattle.sound_plans.specs.Queues.{Writes, has_log, length_for, CanClose, ClosingsFit, QueueFits}

-- ---- what is still to be done

-- these are to be closed, and these undone, so that each of these transactions has ended then; and the counter is the greatest number of the logs
pub record Owes (ts : ToEnd) (cs : List Closing) (us : List Undo) (counter : ℕ) (logs : List Log) : Type 0 where
  pub queue : QueueFits logs us
  pub number : counter ≡ greatest (all_records logs)
  pub ends : EndAll ts cs us logs

-- an Ended is appended next
pub record ClosesNext (ts : ToEnd) (h : Restart) (member : ℕ) (logs : List Log) : Type 0 where
  pub closing : Closing
  pub member_is : member ≡ closing.member
  pub added_is : h.added ≡ ended closing.lrsn closing.tran ∷ []
  pub can : CanClose logs closing
  pub rest : ClosingsFit logs h.plan.closings
  pub owes : Owes ts (closing ∷ h.plan.closings) h.plan.undo h.counter logs

-- a compensation is appended next, whose number is the counter already
pub record UndoesNext (ts : ToEnd) (h : Restart) (member : ℕ) (logs : List Log) : Type 0 where
  pub first : Undo
  pub member_is : member ≡ first.member
  pub added_is : h.added ≡ undoing first h.counter
  pub queue : QueueFits logs (first ∷ h.plan.undo)
  pub number : h.counter ≡ greatest (all_records logs) + 1
  pub small : h.counter < 2 ^ 80
  pub ends : EndAll ts [] (first ∷ h.plan.undo) logs

-- nothing is to be undone any more
pub record OwesNothing (ts : ToEnd) (us : List Undo) (counter : ℕ) (logs : List Log) : Type 0 where
  pub owes : Owes ts [] us counter logs
  pub none : us ≡ []

-- a Checkpoint and a RestartEnd are appended next
pub record EndsNext (ts : ToEnd) (h : Restart) (member : ℕ) (logs : List Log) : Type 0 where
  pub added_is : h.added ≡ ending h.counter (end_of h.plan.ends member)
  pub rest : OwesNothing ts h.plan.undo h.counter logs

-- before the call of this stage, of those behind the redo
abbrev pub IsDueIn : ToEnd → Stage → Restart → List Log → Type 0
IsDueIn ts stage.ReadLog h logs = ⊥
IsDueIn ts (stage.CutTail tail) h logs = ⊥
IsDueIn ts (stage.RedoRead page) h logs = ⊥
IsDueIn ts (stage.RedoWrite page) h logs = ⊥
IsDueIn ts (stage.CloseAppend member) h logs = ClosesNext ts h member logs
IsDueIn ts (stage.UndoRead page) h logs = Owes ts [] h.plan.undo h.counter logs
IsDueIn ts (stage.UndoAppend member page) h logs = UndoesNext ts h member logs
IsDueIn ts (stage.UndoWrite page) h logs = Owes ts [] h.plan.undo h.counter logs
IsDueIn ts (stage.RenewRead page) h logs = OwesNothing ts h.plan.undo h.counter logs
IsDueIn ts (stage.RenewWrite page) h logs = OwesNothing ts h.plan.undo h.counter logs
IsDueIn ts (stage.EndAppend member) h logs = EndsNext ts h member logs
IsDueIn ts stage.End h logs = OwesNothing ts h.plan.undo h.counter logs

-- where it goes on
abbrev pub IsDue : ToEnd → Next → List Log → Type 0
IsDue ts n logs = n.1 ≡ state.Going → IsDueIn ts n.0.stage n.0 logs

abbrev pub writes_of : ℕ → List LogRecord → Writes
writes_of member records = map (λ (r : LogRecord). (member, r)) records

-- the records at hand are appended to the member's log, and the restart goes on with the logs that are then there
abbrev pub GoesOnBehind : ToEnd → Restart → ℕ → Stage → List Log → Type 0
GoesOnBehind ts h member s logs = (after : List Log) × AppendsAll logs (writes_of member h.added) after × IsDue ts (take_done h s) after

-- ---- laws

-- when the pages are brought forward, with a plan that fits the logs, takes of these transactions all that have not ended, and whose greatest number is theirs
abbrev pub UndoBegins : Type 0
UndoBegins = (ts : ToEnd) (h : Restart) (logs : List Log) → ClosingsFit logs h.plan.closings → QueueFits logs h.plan.undo → h.plan.greatest.lrsn ≡ greatest (all_records logs) → EndAll ts h.plan.closings h.plan.undo logs → IsDue ts (begin_undo h) logs

abbrev pub ClosingGoes : Type 0
ClosingGoes = (ts : ToEnd) (h : Restart) (member : ℕ) (logs : List Log) → IsDueIn ts (stage.CloseAppend member) h logs → GoesOnBehind ts h member (stage.CloseAppend member) logs

abbrev pub UndoGoes : Type 0
UndoGoes = (ts : ToEnd) (h : Restart) (member : ℕ) (page : PageId) (logs : List Log) → IsDueIn ts (stage.UndoAppend member page) h logs → GoesOnBehind ts h member (stage.UndoAppend member page) logs

-- calls that read or write pages leave what is to be done
pub record PagesGo : Type 0 where
  pub undo_read : (ts : ToEnd) (h : Restart) (page : PageId) (logs : List Log) → IsDueIn ts (stage.UndoRead page) h logs → IsDue ts (take_done h (stage.UndoRead page)) logs
  pub undo_write : (ts : ToEnd) (h : Restart) (page : PageId) (logs : List Log) → IsDueIn ts (stage.UndoWrite page) h logs → IsDue ts (take_done h (stage.UndoWrite page)) logs
  pub renew_read : (ts : ToEnd) (h : Restart) (page : PageId) (logs : List Log) → IsDueIn ts (stage.RenewRead page) h logs → IsDue ts (take_done h (stage.RenewRead page)) logs
  pub renew_write : (ts : ToEnd) (h : Restart) (page : PageId) (logs : List Log) → IsDueIn ts (stage.RenewWrite page) h logs → IsDue ts (take_done h (stage.RenewWrite page)) logs

-- the Checkpoint names the end of its log, where the plan knows it
abbrev pub EndingGoes : Type 0
EndingGoes = (ts : ToEnd) (h : Restart) (member : ℕ) (logs : List Log) → IsDueIn ts (stage.EndAppend member) h logs → has_log logs member ≡ true → end_of h.plan.ends member ≡ length_for logs member → AllByRecursion IsAllowed h.added
    → GoesOnBehind ts h member (stage.EndAppend member) logs
