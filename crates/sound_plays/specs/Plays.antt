-- What a call leaves of a sound disk to which nothing but group restarts has written.
use Rattle.std.specs.Prelude.{ℕ, Bool, Option}
use Rattle.ds_base.specs.declared.names.Volume.{Volume}
use Rattle.ds_disk.specs.Contents.{Contents, Becomes}
use Rattle.sound_disk.specs.Sound.{IsSoundDisk}
use Rattle.restart_soundness.specs.Runs.{KeepsRows}
use Rattle.restarted_disks.specs.Restarted.{IsLeftByRestarts}
use Rattle.group_run.specs.declared.status.Status.{Status}
use Rattle.group_run.specs.Ends.{TellsDamage}

-- the disk is sound, its logs stand for the rows for which they stood, and no damage is told of
pub record StaysSound (Tells : Volume → ℕ → Type 0) (c d : Contents) : Type 0 where
  pub sound : IsSoundDisk d
  pub rows : KeepsRows c d
  pub whole : (v : Volume) (at : ℕ) → Tells v at → ⊥

-- so it is over a disk that was sound, whatever the status of the call
abbrev pub PlaysLeaveSound : {D : Type 0} → (D → Bool) → (D → Option Contents) → Type 0
PlaysLeaveSound {D} alive contents = (old new : D) (met : Status) → IsLeftByRestarts alive contents old (TellsDamage met) new → Becomes (contents old) (contents new) (λ c d. IsSoundDisk c → StaysSound (TellsDamage met) c d)
