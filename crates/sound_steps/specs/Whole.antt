-- The whole course of a group restart over a sound disk, from its cuts to its end, and what each of its calls leaves.
use Rattle.std.specs.Prelude.{◌≡◌, ◌⊎◌, ℕ, List, Some, Result, Ok}
use Rattle.ds_disk.specs.Contents.{Contents, Becomes}
use Rattle.ds_disk.specs.declared.disk.DiskError.{DiskError}
use Rattle.log_record.specs.declared.log.Log.{Log}
use Rattle.restart_plan.specs.declared.plan.Plan.{Plan}
use Rattle.group_restart.specs.declared.calls.State.{State}
use Rattle.group_restart.specs.declared.calls.State.TheVariants as state
use Rattle.group_restart.specs.declared.reply.Reply.{Reply}
use Rattle.group_restart.specs.declared.stage.Stage.{Stage}
use Rattle.group_restart.specs.declared.stage.Stage.TheVariants as stage
use Rattle.group_restart.specs.Machine.{Restart}
use Rattle.group_restart.specs.Calls.{call_of}
use Rattle.group_restart.specs.Disk.{Drive, Calls}
use Rattle.group_restart.specs.Course.{Next, next_tail, TakesReply}
use Rattle.sound_plans.specs.Courses.{OwesNothing}
use Rattle.sound_plans.specs.Ends.{ToEnd}
use Rattle.sound_restarts.specs.Renewal.{RenewIn}
use Rattle.sound_courses.specs.Standing.{Rests, IsLeftSound}
use Rattle.sound_courses.specs.Bringing.{Cuts, BringIn}
use Rattle.sound_courses.specs.Undoing.{UndoIn}
use Rattle.sound_courses.specs.Ending.{EndIn, HasEnded}

-- pages of version 1 are looked for, and nothing is to be undone any more
pub record Renewing (ts : ToEnd) (st : Stage) (h : Restart) (c : Contents) (logs : List Log) : Type 0 where
  pub renews : RenewIn st h c logs
  pub rests : Rests h c logs
  pub nothing : OwesNothing ts h.plan.undo h.counter logs

-- before the call of this stage, of those behind the reading of the logs
abbrev pub SoundIn : ToEnd → Stage → Plan → Restart → Contents → List Log → Type 0
SoundIn ts stage.ReadLog p h c logs = ⊥
SoundIn ts (stage.CutTail tail) p h c logs = BringIn ts (stage.CutTail tail) p h c logs
SoundIn ts (stage.RedoRead page) p h c logs = BringIn ts (stage.RedoRead page) p h c logs
SoundIn ts (stage.RedoWrite page) p h c logs = BringIn ts (stage.RedoWrite page) p h c logs
SoundIn ts (stage.CloseAppend member) p h c logs = UndoIn ts (stage.CloseAppend member) h c logs
SoundIn ts (stage.UndoRead page) p h c logs = UndoIn ts (stage.UndoRead page) h c logs
SoundIn ts (stage.UndoAppend member page) p h c logs = UndoIn ts (stage.UndoAppend member page) h c logs
SoundIn ts (stage.UndoWrite page) p h c logs = UndoIn ts (stage.UndoWrite page) h c logs
SoundIn ts (stage.RenewRead page) p h c logs = Renewing ts (stage.RenewRead page) h c logs
SoundIn ts (stage.RenewWrite page) p h c logs = Renewing ts (stage.RenewWrite page) h c logs
SoundIn ts (stage.EndAppend member) p h c logs = EndIn ts (stage.EndAppend member) h c logs
SoundIn ts stage.End p h c logs = ⊥

-- the restart goes on with a call before which the disk is so, or all is done; it names no damage
abbrev pub SoundLeads : ToEnd → Next → Plan → Contents → List Log → Type 0
SoundLeads ts n p c logs = ((n.1 ≡ state.Going) × SoundIn ts n.0.stage p n.0 c logs) ⊎ HasEnded ts n c logs

-- ---- laws

-- the logs of a sound disk are read, and the plan suits the disk and fits its logs
abbrev pub CourseBegins : Type 0
CourseBegins = (ts : ToEnd) (p : Plan) (h : Restart) (c : Contents) (logs : List Log) → Cuts ts h.plan.tails p h c logs → SoundLeads ts (next_tail h) p c logs

-- whatever its call comes to, also where the disk dies in it, the disk is left sound
abbrev pub CallLeavesSound : Type 0
CallLeavesSound = (ts : ToEnd) (w v : Drive) (h x : Restart) (made : Result Reply DiskError) (p : Plan) (c : Contents) (logs : List Log) → w.contents ≡ Some c → SoundIn ts h.stage p h c logs → Calls h (call_of h) w made v x
    → Becomes (Some c) v.contents (λ _ d. IsLeftSound d)

-- these are the logs of the disk, and the restart goes on with it
pub record GoesOnWith (ts : ToEnd) (n : Next) (p : Plan) (d : Contents) : Type 0 where
  pub logs : List Log
  pub leads : SoundLeads ts n p d logs

-- where it is answered, the restart goes on
abbrev pub AnswerGoesOn : Type 0
AnswerGoesOn = (ts : ToEnd) (w v : Drive) (h x k : Restart) (r : Reply) (s : State) (p : Plan) (c : Contents) (logs : List Log) → w.contents ≡ Some c → SoundIn ts h.stage p h c logs → Calls h (call_of h) w (Ok r) v x → TakesReply x r s k
    → Becomes (Some c) v.contents (λ _ d. GoesOnWith ts (k, s) p d)
