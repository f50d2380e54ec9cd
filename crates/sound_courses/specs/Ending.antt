-- How a group restart ends the logs of a sound disk, call by call.
use Rattle.std.specs.Prelude.{◌≡◌, ◌⊎◌, ℕ, true, List}
use Rattle.std.specs.List.{AllByRecursion}
use Rattle.ds_disk.specs.Contents.{Contents}
use Rattle.ds_model.specs.RecordBytes.{IsAllowed}
use Rattle.log_record.specs.declared.log.Log.{Log}
use Rattle.group_restart.specs.declared.calls.State.TheVariants as state
use Rattle.group_restart.specs.declared.stage.Stage.{Stage}
use Rattle.group_restart.specs.declared.stage.Stage.TheVariants as stage
use Rattle.group_restart.specs.Machine.{Restart}
use Rattle.group_restart.specs.Course.{Next, next_ending, take_done}
use Rattle.sound_plans.specs.Courses.{OwesNothing, EndsNext}
use Rattle.sound_plans.specs.Ends.{ToEnd}
use Rattle.sound_plans.specs.Queues.{has_log}
use Rattle.sound_courses.specs.Standing.{NoneIsOld, Rests, with_appended, StopsSound}

-- ---- before a call

-- the Checkpoint and the RestartEnd of the member's log are appended, where no page is of version 1 any more
pub record Ends (ts : ToEnd) (member : ℕ) (h : Restart) (c : Contents) (logs : List Log) : Type 0 where
  pub rests : Rests h c logs
  pub due : EndsNext ts h member logs
  pub has : has_log logs member ≡ true
  pub new : NoneIsOld c

-- before the call of this stage
abbrev pub EndIn : ToEnd → Stage → Restart → Contents → List Log → Type 0
EndIn ts stage.ReadLog h c logs = ⊥
EndIn ts (stage.CutTail tail) h c logs = ⊥
EndIn ts (stage.RedoRead page) h c logs = ⊥
EndIn ts (stage.RedoWrite page) h c logs = ⊥
EndIn ts (stage.CloseAppend member) h c logs = ⊥
EndIn ts (stage.UndoRead page) h c logs = ⊥
EndIn ts (stage.UndoAppend member page) h c logs = ⊥
EndIn ts (stage.UndoWrite page) h c logs = ⊥
EndIn ts (stage.RenewRead page) h c logs = ⊥
EndIn ts (stage.RenewWrite page) h c logs = ⊥
EndIn ts (stage.EndAppend member) h c logs = Ends ts member h c logs
EndIn ts stage.End h c logs = ⊥

-- all is done: the disk is sound, each page is as all records leave it and of the version that is written, nothing is to be undone, each of these
-- transactions has an Ended, and the greatest number is told
pub record HasEnded (ts : ToEnd) (n : Next) (c : Contents) (logs : List Log) : Type 0 where
  pub tells : n.1 ≡ state.Done n.0.counter
  pub stage_is : n.0.stage ≡ stage.End
  pub rests : Rests n.0 c logs
  pub nothing : OwesNothing ts n.0.plan.undo n.0.counter logs
  pub new : NoneIsOld c

-- the next log is ended, or all are
abbrev pub EndLeads : ToEnd → Next → Contents → List Log → Type 0
EndLeads ts n c logs = ((n.1 ≡ state.Going) × EndIn ts n.0.stage n.0 c logs) ⊎ HasEnded ts n c logs

-- ---- its calls

-- nothing is to be undone any more, and no page is of version 1
pub record BeginsEnding (ts : ToEnd) (h : Restart) (c : Contents) (logs : List Log) : Type 0 where
  pub rests : Rests h c logs
  pub nothing : OwesNothing ts h.plan.undo h.counter logs
  pub new : NoneIsOld c

abbrev pub EndingBegins : Type 0
EndingBegins = (ts : ToEnd) (h : Restart) (c : Contents) (logs : List Log) → BeginsEnding ts h c logs → EndLeads ts (next_ending h) c logs

-- a Checkpoint and a RestartEnd, which can be written, or what is left of them, leave a sound disk
abbrev pub EndingGoes : Type 0
EndingGoes = (ts : ToEnd) (h : Restart) (member : ℕ) (c : Contents) (logs : List Log) → EndIn ts (stage.EndAppend member) h c logs → AllByRecursion IsAllowed h.added
    → StopsSound h member c × ((after : List Log) × EndLeads ts (take_done h (stage.EndAppend member)) (with_appended h member c) after)
