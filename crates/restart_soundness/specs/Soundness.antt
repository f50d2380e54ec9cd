-- A group restart over a sound disk, from its first call to its last.
use Rattle.std.specs.Prelude.{◌≡◌, ◌⊎◌, ◌||◌, ℕ, Bool, List, length, Some, Result, IfOk}
use Rattle.ds_base.specs.declared.fault.NoMemory.{NoMemory}
use Rattle.ds_disk.specs.Contents.{Contents, Becomes}
use Rattle.log_record.specs.declared.log.Log.{Log}
use Rattle.group_restart.specs.declared.calls.State.{State}
use Rattle.group_restart.specs.declared.calls.State.TheVariants as state
use Rattle.group_restart.specs.Disk.{Drive}
use Rattle.group_restart.specs.Machine.{Restart}
use Rattle.group_restart.specs.Course.{IsBegun, plan_read}
use Rattle.group_restart.specs.Steps.{Steps}
use Rattle.disk_restart.specs.Runs.{AllGo}
use Rattle.restart_reads.specs.Reading.{ReadsNext}
use Rattle.sound_disk.specs.Whole_logs.{AreWholeLogs}
use Rattle.sound_plans.specs.Ends.{takes, has_end, ToEnd}
use Rattle.sound_reads.specs.Reads.{AreReadOf}
use Rattle.sound_restarts.specs.Redo.{IsSoundNow}
use Rattle.sound_steps.specs.Given.{IsLeftSound}
use Rattle.sound_steps.specs.Given.{HasEnded}
use Rattle.sound_steps.specs.Grown.{IsGrown}
use Rattle.sound_steps.specs.Whole.{SoundIn}

-- ---- between two calls

-- the logs of a sound disk are read, and these are its logs
pub record IsReading (first : List Log) (h : Restart) (c : Contents) : Type 0 where
  pub now : IsSoundNow c first
  pub all : length c.logs ≡ 32
  pub next : ReadsNext c first h

-- transactions that have an Ended record once all is done: those that have one in the logs as they were first, and all that the plan of what was read
-- of them closes or undoes
abbrev pub asks_end : List Log → List Log → ℕ → ℕ → Bool
asks_end first reads member tran = has_end first member tran || takes (plan_read reads).closings (plan_read reads).undo member tran

abbrev pub to_end : List Log → List Log → ToEnd
to_end first reads = record { logs = first; trans = asks_end first reads }

-- they were, and the restart follows the plan of what was read; now these are the logs
pub record IsFollowing (first : List Log) (h : Restart) (c : Contents) : Type 0 where
  pub reads : List Log
  pub are_read : AreReadOf first reads
  pub logs : List Log
  pub before : SoundIn (to_end first reads) h.stage (plan_read reads) h c logs

abbrev pub Runs : List Log → Restart → Contents → Type 0
Runs first h c = IsReading first h c ⊎ IsFollowing first h c

-- ---- behind a call

-- all is done, and these are the logs
pub record IsDone (first : List Log) (k : Restart) (counter : ℕ) (d : Contents) : Type 0 where
  pub reads : List Log
  pub are_read : AreReadOf first reads
  pub logs : List Log
  pub ended : HasEnded (to_end first reads) (k, state.Done counter) d logs

-- the restart goes on, or all is done; no damage is named
abbrev pub Tells : List Log → State → Restart → Contents → Type 0
Tells first state.Going k d = Runs first k d
Tells first (state.Done counter) k d = IsDone first k counter d
Tells first (state.Damaged volume at) k d = ⊥
Tells first state.Failed k d = Unit {0}

-- its logs have grown by the plan of what was read of them
pub record GrownByPlan (first : List Log) (d : Contents) : Type 0 where
  pub reads : List Log
  pub are_read : AreReadOf first reads
  pub grown : IsGrown (to_end first reads) d

-- the logs are those that the disk had first, or they have grown so
abbrev pub HasKept : List Log → Contents → Type 0
HasKept first d = AreWholeLogs 1 d.logs first ⊎ GrownByPlan first d

-- the disk is left sound, whatever came of the call
pub record LeavesSound (first : List Log) (result : Result State NoMemory) (k : Restart) (d : Contents) : Type 0 where
  pub left : IsLeftSound d
  pub kept : HasKept first d
  pub tells : IfOk result (λ s. Tells first s k d)

-- ---- laws

-- over a sound disk with the logs of all members
abbrev pub RestartBegins : Type 0
RestartBegins = (c : Contents) (first : List Log) (h : Restart) → IsSoundNow c first → length c.logs ≡ 32 → IsBegun h → Runs first h c

-- each step leaves a sound disk, also where its call fails, or memory is wanting
abbrev pub StepLeavesSound : Type 0
StepLeavesSound = (first : List Log) (w v : Drive) (h k : Restart) (result : Result State NoMemory) (c : Contents) → w.contents ≡ Some c → Runs first h c → Steps w h result v k → Becomes (Some c) v.contents (λ _ d. LeavesSound first result k d)

-- so many steps that go on, and one more, however it ends
abbrev pub RunLeavesSound : Type 0
RunLeavesSound = (first : List Log) (n : ℕ) (w mid v : Drive) (h between k : Restart) (result : Result State NoMemory) (c : Contents) → w.contents ≡ Some c → Runs first h c → AllGo n w h mid between → Steps mid between result v k
    → Becomes (Some c) v.contents (λ _ d. LeavesSound first result k d)
