-- What the copy of a table comes to.
use Rattle.std.specs.Prelude.{◌≡◌, ◌⊎◌, ◌≢◌, ℕ, ◌≤◌, List, [], Option}
use Rattle.std.specs.Io.KnownBytes.{Appends}
use Rattle.ds_base.specs.Causes.{Rose}
use Rattle.ds_base.specs.declared.names.Volume.{Volume}
use Rattle.ds_disk.specs.Contents.{Contents, Becomes}
use Rattle.ds_disk.specs.Pages.{page_at}
use Rattle.disk_restart.specs.Keeping.{KeepsRecords}
use Rattle.table_image_text.specs.Image.{image_of}
use Rattle.table_copy.specs.Looking.{TakesFront}
use Rattle.table_copy.specs.Copying.{IsWrong}
use Rattle.table_copy.specs.Copying.{IsCopied as AreCopiedPages}
-- given out again: a disk and a sink, and why a table was not copied or recovered
pub use Rattle.table_copy.specs.Copying.{Around as SinkAround}
pub use Rattle.table_copy.specs.declared.fault.CopyFault.{CopyFault}
pub use Rattle.table_copy.specs.declared.fault.CopyFault.TheVariants as fault
use Rattle.disk_orders.specs.Numbers.{IsGreatest}
use Rattle.disk_orders.specs.declared.copies.Copied.{Copied}
use Rattle.disk_orders.specs.declared.copies.Copied.TheVariants as copied

-- the sink took this of the image of the table that the disk holds behind the group restart
pub record TakesOf (Takes : List ℕ → Type 0) (c : Contents) (table : ℕ) : Type 0 where
  pub lrsn : ℕ
  pub greatest : IsGreatest c lrsn
  pub takes : Takes (image_of (page_at c.pages) table lrsn)

-- a device failed only where it counted a fault; there is no source, and no image is read
abbrev pub HasCause : SinkAround → SinkAround → CopyFault → Type 0
HasCause before after fault.Source = ⊥
HasCause before after fault.Sink = Rose before.sink_faults after.sink_faults
HasCause before after fault.Disk = Rose before.disk_faults after.disk_faults
HasCause before after (fault.Damaged volume at) = Unit {0}
HasCause before after (fault.Image at) = ⊥
HasCause before after fault.NoMemory = Unit {0}

-- damage that the writing met is that of a page of the table
abbrev pub IsMet : ℕ → CopyFault → Contents → Type 0
IsMet table fault.Source c = Unit {0}
IsMet table fault.Sink c = Unit {0}
IsMet table fault.Disk c = Unit {0}
IsMet table (fault.Damaged volume at) c = IsWrong (page_at c.pages) table volume at
IsMet table (fault.Image at) c = Unit {0}
IsMet table fault.NoMemory c = Unit {0}

-- where the disk told what it holds before the call; the image is that of what it holds behind it
abbrev pub ComesTo : ℕ → SinkAround → SinkAround → Copied → Type 0
ComesTo table before after (copied.Whole pages) =
    Becomes before.contents after.contents (λ was c. AreCopiedPages (page_at c.pages) table pages × TakesOf (Appends before.taken after.taken) c table)
ComesTo table before after (copied.Broken why) =
    HasCause before after why × Becomes before.contents after.contents (λ was c. IsMet table why c × TakesOf (TakesFront before.taken after.taken) c table)
ComesTo table before after (copied.Unopened why) = HasCause before after why × ((why ≢ fault.Sink) × ((after.taken ≡ before.taken) × (after.sink_faults ≡ before.sink_faults)))

-- the logs keep their lasting records, whatever it came to
pub record IsCopied (table : ℕ) (before after : SinkAround) (came : Copied) : Type 0 where
  pub comes : ComesTo table before after came
  pub keeps : Becomes before.contents after.contents KeepsRecords
  pub disk_later : before.disk_faults ≤ after.disk_faults
  pub sink_later : before.sink_faults ≤ after.sink_faults
