-- How the image and the logs are read.
use Rattle.std.specs.Prelude.{◌≡◌, ◌⊎◌, ℕ, ◌≤◌, List, Option, Some, None, Result, Err, IfOk, IsErrOf, Vec}
use Rattle.std.specs.declared.alloc.Global.{Global}
use Rattle.ds_base.specs.Causes.{Rose}
use Rattle.ds_base.specs.declared.names.Volume.{Volume}
use Rattle.ds_base.specs.declared.names.Volume.TheVariants as volume
use Rattle.ds_disk.specs.Contents.{Contents, log_of}
use Rattle.log_record.specs.declared.log.Log.{Log}
use Rattle.log_record.specs.Logs.{parts_in}
use Rattle.log_trans.specs.Damage.{log_damage}
use Rattle.restart_plan.specs.Plans.{plan_of}
use Rattle.restart_plan.specs.declared.plan.Plan.{Plan}
use Rattle.table_copy.specs.declared.fault.CopyFault.{CopyFault}
use Rattle.table_copy.specs.declared.fault.CopyFault.TheVariants as fault

-- ---- the image

-- these were all bytes that were left, where they are told
abbrev pub WereLeft : Option (List ℕ) → List ℕ → Type 0
WereLeft None bytes = Unit {0}
WereLeft (Some left) bytes = left ≡ bytes

-- all was read; or the source failed, as it counted, or memory was wanting
pub record ReadsImage (left : Option (List ℕ)) (faults faults_now : ℕ) (result : Result (Vec ℕ Global) CopyFault) : Type 0 where
  pub ok : IfOk result (λ bytes. WereLeft left bytes.items)
  pub only : (f : CopyFault) → IsErrOf result f → ((f ≡ fault.Source) × Rose faults faults_now) ⊎ (f ≡ fault.NoMemory)
  pub later : faults ≤ faults_now

-- ---- the logs

-- at this byte of the member's log a field begins that isn't allowed
abbrev pub IsUnread : Contents → ℕ → Volume → ℕ → Type 0
IsUnread c member v at = (v ≡ volume.Log member) × (parts_in (log_of c.logs member) ≡ Err at)

-- of logs that were read: a number can't stand there
pub record IsDamagedLog (logs : List Log) (v : Volume) (at : ℕ) : Type 0 where
  pub member : ℕ
  pub names_it : v ≡ volume.Log member
  pub damage : log_damage logs ≡ Some (record { member = member; at = at })

-- what the logs ask for, where no number of them can't stand there; or memory was wanting
pub record PlansBy (logs : List Log) (result : Result Plan CopyFault) : Type 0 where
  pub ok : IfOk result (λ plan. (plan ≡ plan_of logs) × (log_damage logs ≡ None))
  pub damaged : (v : Volume) (at : ℕ) → IsErrOf result (fault.Damaged v at) → IsDamagedLog logs v at
  pub no_source : IsErrOf result fault.Source → ⊥
  pub no_sink : IsErrOf result fault.Sink → ⊥
  pub no_disk : IsErrOf result fault.Disk → ⊥
  pub no_image : (at : ℕ) → IsErrOf result (fault.Image at) → ⊥
