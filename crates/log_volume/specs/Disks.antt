-- How a disk goes on when a log is read.
use Rattle.std.specs.Prelude.{◌≡◌, ◌⊎◌, ℕ, ◌≤◌, Bool, true, false, Option, Result, Err, IfOk, IsErrOf}
use Rattle.ds_base.specs.Causes.{Rose}
use Rattle.ds_disk.specs.Contents.{Contents, log_of, Becomes, Same}
use Rattle.log_record.specs.declared.log.Log.{Log}
use Rattle.log_record.specs.Logs.{parts_in, IsLogOf}
use Rattle.log_volume.specs.declared.fault.LogFault.{LogFault}
use Rattle.log_volume.specs.declared.fault.LogFault.TheVariants.{Failed, Damaged, NoMemory}

-- the count didn't fall, and `Failed` comes only where it rose
pub record HasCause {T : Type 0} (before now : ℕ) (result : Result T LogFault) : Type 0 where
  pub later : before ≤ now
  pub failed : IsErrOf result Failed → Rose before now

-- a reading call: what the disk holds stays, and where the disk tells it, Is holds of the answer
pub record Gives {T : Type 0} (was now : Bool) (before after : Option Contents) (result : Result T LogFault) (Is : T → Contents → Type 0) : Type 0 where
  pub ok : IfOk result (λ x. (was ≡ true) × (now ≡ true) × Becomes before after (λ c d. (d ≡ c) × Is x c))
  pub damaged : (at : ℕ) → IsErrOf result (Damaged at) → ⊥
  pub failed : IsErrOf result Failed → ((now ≡ was) ⊎ (now ≡ false)) × Becomes before after Same
  pub no_memory : IsErrOf result NoMemory → (was ≡ true) × (now ≡ true) × Becomes before after Same

-- how a log was read: what the disk holds stays, and where the disk tells it, the answer is the parts of the member's log
pub record Opens (member : ℕ) (was now : Bool) (before after : Option Contents) (result : Result Log LogFault) : Type 0 where
  pub ok : IfOk result (λ log. (was ≡ true) × (now ≡ true) × Becomes before after (λ c d. (d ≡ c) × IsLogOf (log_of c.logs member) log))
  pub damaged : (at : ℕ) → IsErrOf result (Damaged at) → (was ≡ true) × (now ≡ true) × Becomes before after (λ c d. (d ≡ c) × (parts_in (log_of c.logs member) ≡ Err at))
  pub failed : IsErrOf result Failed → ((now ≡ was) ⊎ (now ≡ false)) × Becomes before after Same
  pub no_memory : IsErrOf result NoMemory → (was ≡ true) × (now ≡ true) × Becomes before after Same
