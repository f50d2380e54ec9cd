-- How the logs of a disk grow while a group restart follows its plan.
use Rattle.std.specs.Prelude.{◌≡◌, ◌⊎◌, ℕ, true, false, List, ◌++◌, Some, Result}
use Rattle.ds_disk.specs.Contents.{Contents, Becomes}
use Rattle.ds_disk.specs.declared.disk.DiskError.{DiskError}
use Rattle.ds_model.specs.declared.log.LogRecord.{LogRecord}
use Rattle.log_record.specs.declared.log.Log.{Log}
use Rattle.restart_plan.specs.declared.plan.Plan.{Plan}
use Rattle.group_restart.specs.declared.reply.Reply.{Reply}
use Rattle.group_restart.specs.declared.stage.Stage.{Stage}
use Rattle.group_restart.specs.Calls.{call_of}
use Rattle.group_restart.specs.Disk.{Drive, Calls}
use Rattle.group_restart.specs.Machine.{Restart}
use Rattle.sound_disk.specs.Whole_logs.{AreWholeLogs}
use Rattle.sound_plans.specs.Ends.{has_end, ToEnd, has_checkpoint}
use Rattle.sound_plans.specs.Queues.{records_for}
use Rattle.sound_courses.specs.Standing.{IsLeftSound}
use Rattle.sound_steps.specs.Whole.{SoundIn}

-- each of these transactions has an Ended
abbrev pub HaveEnded : ToEnd → List Log → Type 0
HaveEnded ts logs = (member tran : ℕ) → ts.trans member tran ≡ true → has_end logs member tran ≡ true

-- the log had the first of its records, and has more; a Checkpoint is behind the first ones only where all that are to have an Ended have one
pub record GrowsTo (ts : ToEnd) (logs : List Log) (member : ℕ) : Type 0 where
  pub more : List LogRecord
  pub are : records_for logs member ≡ records_for ts.logs member ++ more
  pub until : (has_checkpoint more ≡ false) ⊎ HaveEnded ts logs

-- so it is of each log of the disk
pub record IsGrown (ts : ToEnd) (d : Contents) : Type 0 where
  pub logs : List Log
  pub whole : AreWholeLogs 1 d.logs logs
  pub each : (member : ℕ) → GrowsTo ts logs member

-- ---- laws

-- before a call they have
abbrev pub HasGrownBefore : Type 0
HasGrownBefore = (ts : ToEnd) (st : Stage) (p : Plan) (h : Restart) (c : Contents) (logs : List Log) → SoundIn ts st p h c logs → IsGrown ts c

-- and behind it, whatever it comes to
abbrev pub CallGrows : Type 0
CallGrows = (ts : ToEnd) (w v : Drive) (h x : Restart) (made : Result Reply DiskError) (p : Plan) (c : Contents) (logs : List Log) → w.contents ≡ Some c → SoundIn ts h.stage p h c logs → Calls h (call_of h) w made v x
    → Becomes (Some c) v.contents (λ _ d. IsLeftSound d → IsGrown ts d)
