-- What redo meets on the pages of a sound disk.
use Rattle.std.specs.Prelude.{◌≡◌, List, Bool, false, Result, Ok, Err}
use Rattle.ds_base.specs.declared.names.PageId.{PageId}
use Rattle.ds_disk.specs.Contents.{Contents}
use Rattle.ds_disk.specs.Pages.{page_at}
use Rattle.log_record.specs.declared.log.Log.{Log}
use Rattle.page_format.specs.Fields.{is_old}
use Rattle.page_redo.specs.declared.fault.FieldFault.{FieldFault}
use Rattle.page_redo.specs.Forward.{brought_forward}
use Rattle.sound_disk.specs.Versions.{merged}
use Rattle.sound_disk.specs.Sound.{IsSoundWith}

-- no field is in the way
abbrev pub FindsNothing : Result Bool FieldFault → Type 0
FindsNothing (Ok raised) = Unit {0}
FindsNothing (Err fault) = ⊥

-- of the merged records none meets a field in its way, on a page of the version that is written
abbrev pub NoneIsInTheWay : Type 0
NoneIsInTheWay = (c : Contents) (logs : List Log) (id : PageId) → IsSoundWith c logs → is_old (page_at c.pages id) ≡ false → FindsNothing (brought_forward id (page_at c.pages id) (merged logs)).outcome
