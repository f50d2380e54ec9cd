-- What is found of the page sets of some tables.
use Rattle.std.specs.Prelude.{ℕ, ◌+◌, ◌-◌, Bool, List}
use Rattle.ds_base.specs.Pages.{heap_set, index_set}
use Rattle.ds_base.specs.declared.names.PageId.{PageId}
use Rattle.ds_model.specs.declared.log.LogRecord.{LogRecord}
use Rattle.log_record.specs.declared.log.Log.{Log}
use Rattle.page_images.specs.Images.{Images}
use Rattle.restart_plan.specs.Renewal.{must_renew}
use Rattle.sound_disk.specs.Versions.{merged}
use Rattle.redone_pages.specs.declared.range.TableRange.{TableRange}
use Rattle.redone_pages.specs.Redone.{Redone}
use Rattle.disk_versions.specs.Placing.{AreInSets, IsFirstInSets, AreSetsTold}
use Rattle.disk_versions.specs.Told.{page_sets, IsTold}
use Rattle.disk_versions.specs.declared.set.Placing.{Placing}
use Rattle.disk_versions.specs.declared.set.Placing.TheVariants as placing

-- how many page sets stand before those of the tables, and how many up to the last of them
abbrev pub sets_before : TableRange → ℕ
sets_before range = heap_set range.first - 1

abbrev pub sets_up_to : TableRange → ℕ
sets_up_to range = index_set range.last

-- where each page that is read of the sets before may stand, so may each up to these; or this is the first of all that may not
abbrev pub IsRangeTold : Images → Redone → Bool → ℕ → Placing → Type 0
IsRangeTold at made renews behind (placing.All more) =
    (pages : ℕ) → AreInSets at made.records renews behind (sets_before made.range) pages → AreInSets at made.records renews behind (sets_up_to made.range) (pages + more)
IsRangeTold at made renews behind (placing.Unplaced id) = (pages : ℕ) → AreInSets at made.records renews behind (sets_before made.range) pages → IsFirstInSets at made.records renews behind page_sets id

-- what is found of all page sets by the merged records is what is told of the third clause of a sound disk
abbrev pub PlacingTells : Type 0
PlacingTells = (at : Images) (logs : List Log) (behind : ℕ) (found : Placing) → AreSetsTold at (merged logs) (must_renew logs) behind page_sets found → IsTold at logs behind found

-- before the first page set each may stand
abbrev pub NoneUnplaced : Type 0
NoneUnplaced = (at : Images) (records : List LogRecord) (renews : Bool) (behind : ℕ) → AreInSets at records renews behind 0 0
