-- How a disk is read.
use Rattle.std.specs.Prelude.{◌≡◌, ℕ, ◌+◌, ◌≤◌, List, length, take, drop, Option, Result, IfOk, IsErrOf}
use Rattle.ds_base.specs.Causes.{Rose}
use Rattle.ds_disk.specs.Contents.{Contents, WhenTold, Becomes, Same}
use Rattle.ds_disk.specs.declared.disk.DiskError.{DiskError}
use Rattle.ds_disk.specs.declared.disk.DiskError.TheVariants.{Failed}

-- the answer holds of what the disk told before the call, which stays as it was; the call failed only where the disk counted a fault
pub record Reads {T : Type 0} (before after : Option Contents) (faults faults_now : ℕ) (Is : T → Contents → Type 0) (result : Result T DiskError) : Type 0 where
  pub ok : IfOk result (λ x. WhenTold before (Is x))
  pub failed : IsErrOf result Failed → Rose faults faults_now
  pub same : Becomes before after Same
  pub later : faults ≤ faults_now

-- these are the log's bytes from this one on, if it has as many
abbrev pub AreAt : List ℕ → ℕ → List ℕ → Type 0
AreAt log at bytes = at + length bytes ≤ length log → bytes ≡ take (length bytes) (drop at log)
