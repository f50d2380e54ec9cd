-- A group restart while it reads the logs of a sound disk.
use Rattle.std.specs.Prelude.{◌≡◌, ◌≢◌, ◌⊎◌, ℕ, List, ◌∷◌, ◌++◌, length, false, None, Some, Result, Ok}
use Rattle.ds_base.specs.declared.fault.NoMemory.{NoMemory}
use Rattle.ds_disk.specs.Contents.{Contents, Becomes, log_of}
use Rattle.log_record.specs.declared.log.Log.{Log}
use Rattle.log_reader.specs.Held.{nothing_held}
use Rattle.log_reader.specs.Keeping.{IsOf, IsNoted}
use Rattle.log_reader.specs.Readers.{ReaderState}
use Rattle.restart_plan.specs.Renewal.{must_renew}
use Rattle.group_restart.specs.declared.calls.State.{State}
use Rattle.group_restart.specs.declared.calls.State.TheVariants as state
use Rattle.group_restart.specs.declared.stage.Stage.TheVariants as stage
use Rattle.group_restart.specs.Disk.{Drive}
use Rattle.group_restart.specs.Machine.{Restart}
use Rattle.group_restart.specs.Course.{IsBegun, planned}
use Rattle.group_restart.specs.Steps.{Steps}
use Rattle.sound_disk.specs.Sound.{IsSoundWith}
use Rattle.sound_reads.specs.Reads.{AreReadOf, IsKept}

-- of a log of these bytes something is read: its length is told before its bytes
pub record IsBeingRead (bytes : List ℕ) (r : ReaderState) : Type 0 where
  pub of : IsOf bytes r.held
  pub kept : IsKept r.held
  pub noted : IsNoted bytes r.held
  pub told : (long : ℕ) → r.length_told ≡ Some long → long ≡ length bytes
  pub fresh : r.length_told ≡ None → r.held ≡ nothing_held false

-- the logs in front are read, and by them pages of version 1 are looked for where they ask for it; and this log is being read
pub record ReadsNext (c : Contents) (logs : List Log) (h : Restart) : Type 0 where
  pub stage_is : h.stage ≡ stage.ReadLog
  pub front : List Log
  pub log : Log
  pub back : List Log
  pub logs_are : logs ≡ front ++ log ∷ back
  pub are_read : AreReadOf front h.logs
  pub renews : h.renews ≡ must_renew front
  pub member_is : h.reader.member ≡ log.member
  pub reading : IsBeingRead (log_of c.logs log.member) h.reader

-- all logs are read, and no damage is found in what was read; the restart goes on by it, and looks for pages of version 1 where the logs ask for it
pub record AllAreRead (logs : List Log) (s : State) (k : Restart) : Type 0 where
  pub behind : Restart
  pub are_read : AreReadOf logs behind.logs
  pub renews : behind.renews ≡ must_renew logs
  pub goes : planned behind None ≡ (k, s)

abbrev pub ReadingLeads : Contents → List Log → State → Restart → Type 0
ReadingLeads c logs s k = ((s ≡ state.Going) × ReadsNext c logs k) ⊎ AllAreRead logs s k

-- ---- laws

-- on a disk with the logs of all members
abbrev pub ReadingBegins : Type 0
ReadingBegins = (c : Contents) (logs : List Log) (h : Restart) → IsSoundWith c logs → length c.logs ≡ 32 → IsBegun h → ReadsNext c logs h

-- a step that doesn't fail leaves the disk
abbrev pub ReadingGoes : Type 0
ReadingGoes = (w v : Drive) (h k : Restart) (result : Result State NoMemory) (s : State) (c : Contents) (logs : List Log) → IsSoundWith c logs → length c.logs ≡ 32 → w.contents ≡ Some c → ReadsNext c logs h → Steps w h result v k → result ≡ Ok s → s ≢ state.Failed
    → Becomes (Some c) v.contents (λ _ d. (d ≡ c) × ReadingLeads c logs s k)
