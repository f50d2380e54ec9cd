-- What the recovery of a table and the group restart behind it come to.
use Rattle.std.specs.Prelude.{◌≡◌, ℕ, Result, Ok, Err}
use Rattle.ds_disk.specs.Contents.{Becomes}
use Rattle.disk_restart.specs.Keeping.{KeepsRecords}
-- given out again: what a recovery comes to, and a disk and a source
pub use Rattle.copy_recover.specs.Recovering.{Recovers, BecomesBy, IsBegun}
pub use Rattle.copy_recover.specs.Recovering.{Around as SourceAround}
use Rattle.table_copy.specs.declared.fault.CopyFault.{CopyFault}
use Rattle.disk_orders.specs.Restarting.{Restarts}

-- the group restart is done, and so many pages were made; or it ended by this
abbrev pub EndsIn : ℕ → Result (Unit {0}) CopyFault → Result ℕ CopyFault → Type 0
EndsIn pages (Ok done) result = result ≡ Ok pages
EndsIn pages (Err why) result = result ≡ Err why

-- behind a recovery: the group restart of the disk that it left, from which nothing is read
pub record IsRestarted (pages : ℕ) (between after : SourceAround) (result : Result ℕ CopyFault) : Type 0 where
  pub done : Result (Unit {0}) CopyFault
  pub restarts : Restarts between.contents after.contents between.disk_faults after.disk_faults done
  pub ends : EndsIn pages done result
  pub left : after.left ≡ between.left
  pub source_faults : after.source_faults ≡ between.source_faults

-- what is made of the answer of the recovery: the group restart runs, or it ends with its fault
abbrev pub GoesOn : Result ℕ CopyFault → SourceAround → SourceAround → Result ℕ CopyFault → Type 0
GoesOn (Ok pages) between after result = IsRestarted pages between after result
GoesOn (Err why) between after result = (result ≡ Err why) × (after ≡ between)

-- the logs keep their lasting records, whatever it came to
pub record RecoversTable (table : ℕ) (before after : SourceAround) (result : Result ℕ CopyFault) : Type 0 where
  pub between : SourceAround
  pub made : Result ℕ CopyFault
  pub recovers : Recovers table before between made
  pub goes : GoesOn made between after result
  pub keeps : Becomes before.contents after.contents KeepsRecords
