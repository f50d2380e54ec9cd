-- The fourth clause of a sound disk, the index is whole, the rows before agree and slots keep their keys: of the pages after all records.
use Rattle.std.specs.Prelude.{◌≡◌, ◌⊎◌, ℕ, true, List, [], Option, Some}
use Rattle.ds_base.specs.Ids.{IsTable}
use Rattle.ds_base.specs.Pages.{index_page}
use Rattle.ds_base.specs.declared.names.Place.{Place}
use Rattle.ds_model.specs.declared.log.LogRecord.{LogRecord}
use Rattle.page_format.specs.Header.{is_zeros}
use Rattle.index_leaf.specs.declared.layout.Entry.{Entry}
use Rattle.index_leaf.specs.Entries.{entries_of}
use Rattle.index_leaf.specs.Search.{find}
use Rattle.log_record.specs.declared.log.Log.{Log}
use Rattle.page_images.specs.Images.{Images}
use Rattle.page_redo.specs.Given.{images_of}
use Rattle.index_protocol.specs.Opening.{IsSound}
use Rattle.sound_disk.specs.Versions.{merged}
use Rattle.sound_disk.specs.Heaps.{IsHeap}
use Rattle.sound_disk.specs.Indexes.{AreIndexPages}
use Rattle.sound_disk.specs.Index_views.{index_of}
use Rattle.sound_disk.specs.Rows_there.{said_at, IsPlaceOf, row_after, BeforesAgree}

-- there is no index, and no slot is given
pub record HasNoIndex (at : Images) (table : ℕ) : Type 0 where
  pub zeros : (n : ℕ) → is_zeros (at (index_page table n)) ≡ true
  pub no_key : (key : ℕ) (place : Place) → IsPlaceOf at table key place → ⊥

-- the entry that the leaf of a key has for it
abbrev pub leaf_entry : Images → ℕ → (ℕ → ℕ) → ℕ → Option Entry
leaf_entry at table home key = find (entries_of (at (index_page table (home key)))) key

-- the pages of the index are right, and it is one with which the machine of the index opens; the leaf that covers a key has its place exactly
-- where that slot was given to it
pub record IsWholeIndex (at : Images) (records : List LogRecord) (table : ℕ) : Type 0 where
  pub pages : AreIndexPages at table
  pub home : ℕ → ℕ
  pub opens : IsSound (index_of at records table home)
  pub leads : (e : Entry) → leaf_entry at table home e.key ≡ Some e → IsPlaceOf at table e.key e.place
  pub reached : (e : Entry) → IsPlaceOf at table e.key e.place → leaf_entry at table home e.key ≡ Some e

-- heap and index are right, and each slot has the row that the records left
pub record IsWholeTable (at : Images) (records : List LogRecord) (table : ℕ) : Type 0 where
  pub heap : IsHeap at table
  pub index : HasNoIndex at table ⊎ IsWholeIndex at records table
  pub rows : (key : ℕ) (place : Place) → IsPlaceOf at table key place → said_at at table place ≡ Some (key, row_after records table key)

-- each table after all records; and each of them met its row, or left each slot to its key
pub record AreWholeTables (records : List LogRecord) : Type 0 where
  pub tables : (table : ℕ) → IsTable table → IsWholeTable (images_of records) records table
  pub befores : BeforesAgree [] records

abbrev pub AreTables : List Log → Type 0
AreTables logs = AreWholeTables (merged logs)
