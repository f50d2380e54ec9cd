-- Whether the pages of a table are right, and which page is named of the first table that isn't whole.
use Rattle.std.specs.Prelude.{◌≡◌, ◌⊎◌, ℕ, ◌-◌, ◌<◌, ◌≤◌, min, true, false, List, Contains, Option, None, Some}
use Rattle.ds_base.specs.Ids.{IsTable}
use Rattle.ds_base.specs.Pages.{heap_page, index_page, index_set}
use Rattle.ds_base.specs.declared.names.PageId.{PageId}
use Rattle.ds_base.specs.declared.names.Place.{Place}
use Rattle.ds_model.specs.declared.log.LogRecord.{LogRecord}
use Rattle.index_leaf.specs.declared.layout.Entry.{Entry}
use Rattle.index_leaf.specs.Entries.{low_of, high_of, entries_of}
use Rattle.index_leaf.specs.Search.{is_branch, is_beyond, find}
use Rattle.page_images.specs.Images.{Images}
use Rattle.sound_disk.specs.Heaps.{heap_last}
use Rattle.sound_disk.specs.Indexes.{index_next}
use Rattle.sound_disk.specs.Rows_there.{row_after, IsPlaceOf}
use Rattle.sound_disk.specs.Tables.{IsWholeTable}
use Rattle.disk_versions.specs.Ends.{last_in_records}
use Rattle.table_images.specs.Stands.{StandsAt, given_by}
use Rattle.table_images.specs.Nodes.{NodeStandsAt, is_formatted}
use Rattle.heap_rows.specs.Rows_left.{PageHasAt}
use Rattle.redone_pages.specs.declared.range.TableRange.{TableRange}
use Rattle.redone_pages.specs.Ranges.{HasTable}
use Rattle.index_links.specs.declared.nodes.Node.{Node}
use Rattle.index_links.specs.Nodes.{nodes_from}
use Rattle.index_links.specs.Links.{is_linked}

-- ---- pages in their order

-- the page isn't right, and all before it are
pub record IsFirstWrong (page_of : ℕ → PageId) (IsRight : ℕ → Type 0) (id : PageId) : Type 0 where
  pub id_is : id ≡ page_of id.number
  pub wrong : IsRight id.number → ⊥
  pub before : (n : ℕ) → n < id.number → IsRight n

abbrev pub IsFound : (ℕ → PageId) → (ℕ → Type 0) → Option PageId → Type 0
IsFound page_of IsRight None = (n : ℕ) → IsRight n
IsFound page_of IsRight (Some id) = IsFirstWrong page_of IsRight id

-- ---- the heap of a table

-- the page is right by itself, and each slot that was given on it has the row that the records left
abbrev pub IsRightHeapPage : Images → List LogRecord → ℕ → ℕ → Type 0
IsRightHeapPage at records table n = StandsAt at table (heap_last at table) (given_by at table) n × PageHasAt at (row_after records table) table n

abbrev pub IsHeapFound : Images → List LogRecord → ℕ → Option PageId → Type 0
IsHeapFound at records table found = IsFound (heap_page table) (IsRightHeapPage at records table) found

-- ---- the index of a table

-- the leaf has the places of the slots that were given to its keys, and no others
pub record IsRightLeaf (at : Images) (table : ℕ) (page : List ℕ) : Type 0 where
  pub leads : (e : Entry) → Contains (entries_of page) e → IsPlaceOf at table e.key e.place
  pub reached : (e : Entry) → low_of page ≤ e.key → is_beyond (high_of page) e.key ≡ false → IsPlaceOf at table e.key e.place → find (entries_of page) e.key ≡ Some e

-- what the pages before the next free one say, as far as a record changes one
abbrev pub nodes_in : Images → List LogRecord → ℕ → List Node
nodes_in at records table = nodes_from at table 1 (min (index_next at table - 1) (last_in_records (index_set table) 0 records))

-- the branch or leaf stands where it is to among them; a leaf has its places
pub record IsRightNode (at : Images) (records : List LogRecord) (table n : ℕ) : Type 0 where
  pub linked : is_linked table (nodes_in at records table) n (at (index_page table n)) ≡ true
  pub leaf : is_branch (at (index_page table n)) ≡ false → IsRightLeaf at table (at (index_page table n))

abbrev pub HasNoKey : Images → ℕ → Type 0
HasNoKey at table = (key : ℕ) (place : Place) → IsPlaceOf at table key place → ⊥

-- the page is right by itself, and among the others. Page 1 of an index that was never formatted is so where no slot was given
pub record IsRightIndexPage (at : Images) (records : List LogRecord) (table n : ℕ) : Type 0 where
  pub by_itself : NodeStandsAt at table (is_formatted at table) (index_next at table) n
  pub among : 1 ≤ n → n < index_next at table → IsRightNode at records table n
  pub formatted : n ≡ 1 → is_formatted at table ≡ false → HasNoKey at table

abbrev pub IsIndexFound : Images → List LogRecord → ℕ → Option PageId → Type 0
IsIndexFound at records table found = IsFound (index_page table) (IsRightIndexPage at records table) found

-- ---- a table

-- the first page of the heap that isn't right; where there is none, the first of the index
abbrev pub IsNamed : Images → List LogRecord → ℕ → PageId → Type 0
IsNamed at records table id =
    IsFirstWrong (heap_page table) (IsRightHeapPage at records table) id
    ⊎ (((n : ℕ) → IsRightHeapPage at records table n) × IsFirstWrong (index_page table) (IsRightIndexPage at records table) id)

abbrev pub IsTableTold : Images → List LogRecord → ℕ → Option PageId → Type 0
IsTableTold at records table None = IsWholeTable at records table
IsTableTold at records table (Some id) = (IsWholeTable at records table → ⊥) × IsNamed at records table id

-- ---- all tables

abbrev pub AreAllWhole : Images → List LogRecord → Type 0
AreAllWhole at records = (table : ℕ) → IsTable table → IsWholeTable at records table

-- the table is the first that isn't whole, and this is the page that is named
pub record IsFirstUnwhole (at : Images) (records : List LogRecord) (id : PageId) : Type 0 where
  pub table : ℕ
  pub is_table : IsTable table
  pub unwhole : IsWholeTable at records table → ⊥
  pub before : (k : ℕ) → 1 ≤ k → k < table → IsWholeTable at records k
  pub page : IsNamed at records table id

-- ---- the tables of a range

-- the table is the first of them that isn't whole, and this is the page that is named
pub record IsFirstUnwholeOf (at : Images) (records : List LogRecord) (range : TableRange) (id : PageId) : Type 0 where
  pub table : ℕ
  pub is_table : IsTable table
  pub in_range : HasTable range table
  pub unwhole : IsWholeTable at records table → ⊥
  pub before : (k : ℕ) → range.first ≤ k → k < table → IsWholeTable at records k
  pub page : IsNamed at records table id

abbrev pub IsRangeTold : Images → List LogRecord → TableRange → Option PageId → Type 0
IsRangeTold at records range None = (table : ℕ) → HasTable range table → IsWholeTable at records table
IsRangeTold at records range (Some id) = IsFirstUnwholeOf at records range id
