-- How a group restart ends before a copy, or behind a recovery.
use Rattle.std.specs.Prelude.{ℕ, ◌≤◌, Option, Result, IfOk, IsErrOf}
use Rattle.ds_base.specs.Causes.{Rose}
use Rattle.ds_disk.specs.Contents.{Contents, Becomes}
use Rattle.disk_restart.specs.Keeping.{KeepsRecords}
use Rattle.table_copy.specs.declared.fault.CopyFault.{CopyFault}
use Rattle.table_copy.specs.declared.fault.CopyFault.TheVariants as fault
use Rattle.disk_orders.specs.Numbers.{IsGreatest}

-- the logs keep their lasting records; a call failed only where the disk counted it
pub record Restarts (before after : Option Contents) (faults faults_now : ℕ) (result : Result (Unit {0}) CopyFault) : Type 0 where
  pub disk_failed : IsErrOf result fault.Disk → Rose faults faults_now
  pub no_source : IsErrOf result fault.Source → ⊥
  pub no_sink : IsErrOf result fault.Sink → ⊥
  pub no_image : (at : ℕ) → IsErrOf result (fault.Image at) → ⊥
  pub keeps : Becomes before after KeepsRecords
  pub later : faults ≤ faults_now

-- the same, and this is the greatest number of the logs that it left
pub record Opens (before after : Option Contents) (faults faults_now : ℕ) (result : Result ℕ CopyFault) : Type 0 where
  pub greatest : IfOk result (λ lrsn. Becomes before after (λ was c. IsGreatest c lrsn))
  pub disk_failed : IsErrOf result fault.Disk → Rose faults faults_now
  pub no_source : IsErrOf result fault.Source → ⊥
  pub no_sink : IsErrOf result fault.Sink → ⊥
  pub no_image : (at : ℕ) → IsErrOf result (fault.Image at) → ⊥
  pub keeps : Becomes before after KeepsRecords
  pub later : faults ≤ faults_now
