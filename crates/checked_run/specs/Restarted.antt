-- What is told of damage where nothing but group restarts has written to the disk.
use Rattle.std.specs.Prelude.{◌≡◌, ℕ, Bool, Option, Some, None}
use Rattle.ds_base.specs.declared.names.Volume.{Volume}
use Rattle.ds_base.specs.declared.names.Volume.TheVariants as volume
use Rattle.ds_disk.specs.Contents.{Contents}
use Rattle.group_core.specs.declared.fault.RunFault.{RunFault}
use Rattle.group_core.specs.declared.fault.RunFault.TheVariants as fault
use Rattle.group_core.specs.Starts.{IsOpened, IsUnopened}
use Rattle.opening_rows.specs.declared.fault.LogsFault.{LogsFault}
use Rattle.opening_rows.specs.declared.fault.LogsFault.TheVariants as reading
-- given out again: nothing but group restarts has written to a disk
pub use Rattle.restarted_disks.specs.Restarted.{IsLeftByRestarts, IsRestarted, IsUnwritten}
use Rattle.checked_run.specs.declared.ended.Ended.TheVariants as ended
use Rattle.checked_run.specs.declared.ended.Outcome.{Outcome}
use Rattle.checked_run.specs.declared.ended.Outcome.TheVariants as outcome

-- why a disk isn't opened whose logs were not read
abbrev pub fault_by : LogsFault → RunFault
fault_by reading.Failed = fault.Failed
fault_by (reading.Damaged member at) = fault.Damaged (volume.Log member) at
fault_by reading.NoMemory = fault.NoMemory

-- the outcome tells of this damage
abbrev pub TellsDamageOf : Outcome → Volume → ℕ → Type 0
TellsDamageOf (outcome.Unopened why) v at = why ≡ fault.Damaged v at
TellsDamageOf (outcome.Opened opening end) v at = end ≡ ended.Damaged v at

-- a group restart was run over the disk, and was done, or ended by this
abbrev pub EndsBy : {D : Type 0} → (D → Bool) → (D → Option Contents) → D → Option RunFault → D → Type 0
EndsBy {D} alive contents old None new = IsOpened alive contents old new
EndsBy {D} alive contents old (Some why) new = IsUnopened alive contents old why new

-- so it is where the disk wasn't opened
abbrev pub IfUnopened : Outcome → Type 0 → Type 0
IfUnopened (outcome.Unopened why) P = P
IfUnopened (outcome.Opened opening end) P = Unit {0}
