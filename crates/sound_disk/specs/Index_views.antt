-- The index of a table as the pure machine of the index opens with it.
use Rattle.std.specs.Prelude.{ℕ, ◌+◌, ◌*◌, ◌==◌, if◌then◌else◌, List, length, filter, slice_index, Option, Some, None}
use Rattle.ds_base.specs.Pages.{index_page}
use Rattle.ds_base.specs.declared.names.Place.{Place}
use Rattle.ds_model.specs.declared.log.LogRecord.{LogRecord}
use Rattle.page_format.specs.Fields.{kind_at}
use Rattle.page_format.specs.Header.{slots_per_page}
use Rattle.index_leaf.specs.declared.layout.Entry.{Entry}
use Rattle.index_leaf.specs.Entries.{low_of, high_of, right_field, entries_of}
use Rattle.index_leaf.specs.Changes.{branch, leaf}
use Rattle.index_leaf.specs.Search.{find}
use Rattle.page_images.specs.Images.{Images}
use Rattle.page_redo.specs.Given.{touches}
use Rattle.index_protocol.specs.Index.{Kind, Unmade, Leaf, Branch, Link}
use Rattle.index_protocol.specs.Opening.{Disk}

abbrev pub kind_in : List ℕ → Kind
kind_in page = if slice_index page kind_at == branch then Branch else if slice_index page kind_at == leaf then Leaf else Unmade

abbrev pub link_to : ℕ → Option ℕ → Option Link
link_to right None = None
link_to right (Some high) = Some (record { high = high; right = right })

abbrev pub link_in : List ℕ → Option Link
link_in page = link_to (right_field page) (high_of page)

-- places of rows as numbers: the slots of a heap in their order
abbrev pub place_number : Place → ℕ
place_number p = slots_per_page * p.page + p.slot

-- where an entry leads: from a branch to a page, else to a place
abbrev pub led_by : Kind → Entry → ℕ
led_by Branch e = e.place.page
led_by Leaf e = place_number e.place
led_by Unmade e = place_number e.place

abbrev pub leads : Kind → Option Entry → Option ℕ
leads kind None = None
leads kind (Some e) = Some (led_by kind e)

abbrev pub entry_of : List ℕ → ℕ → Option ℕ
entry_of page key = leads (kind_in page) (find (entries_of page) key)

-- how many of the records have changed a page of the index
abbrev pub changes_by : Kind → ℕ → ℕ
changes_by Unmade count = 0
changes_by Leaf count = count
changes_by Branch count = count

abbrev pub changes_in : List LogRecord → ℕ → ℕ → ℕ
changes_in records table n = length (filter (touches (index_page table n)) records)

-- the branches and leaves of the table after these records, with a leaf for each key
abbrev pub index_of : Images → List LogRecord → ℕ → (ℕ → ℕ) → Disk
index_of at records table home = record {
  kind = λ n. kind_in (at (index_page table n));
  low = λ n. low_of (at (index_page table n));
  last = λ n. changes_by (kind_in (at (index_page table n))) (changes_in records table n);
  link = λ n. link_in (at (index_page table n));
  entry = λ n. entry_of (at (index_page table n));
  home = home;
}
