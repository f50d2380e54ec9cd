-- A step of a group restart.
use Rattle.std.specs.Prelude.{◌≡◌, Result, Ok, Err, IfOk}
use Rattle.ds_base.specs.declared.fault.NoMemory.{NoMemory}
use Rattle.ds_disk.specs.declared.disk.DiskError.{DiskError}
use Rattle.ds_disk.specs.declared.disk.DiskError.TheVariants as failures
use Rattle.group_restart.specs.declared.calls.State.{State}
use Rattle.group_restart.specs.declared.calls.State.TheVariants as state
use Rattle.group_restart.specs.declared.reply.Reply.{Reply}
use Rattle.group_restart.specs.Machine.{Restart}
use Rattle.group_restart.specs.Calls.{call_of}
use Rattle.group_restart.specs.Course.{TakesReply}
use Rattle.group_restart.specs.Disk.{Drive, Calls}

abbrev pub WantsMemory : Result State NoMemory → Type 0
WantsMemory (Ok s) = ⊥
WantsMemory (Err e) = Unit {0}

-- what was answered is taken; a call without an answer changes nothing here
abbrev pub Takes : Restart → Result Reply DiskError → Result State NoMemory → Restart → Type 0
Takes h (Ok r) result k = IfOk result (λ s. TakesReply h r s k)
Takes h (Err failures.Failed) result k = (result ≡ Ok state.Failed) × (k ≡ h)
Takes h (Err failures.NoMemory) result k = WantsMemory result × (k ≡ h)

pub record Steps (w : Drive) (h : Restart) (result : Result State NoMemory) (v : Drive) (k : Restart) : Type 0 where
  pub made : Result Reply DiskError
  pub after : Restart
  pub calls : Calls h (call_of h) w made v after
  pub takes : Takes after made result k
