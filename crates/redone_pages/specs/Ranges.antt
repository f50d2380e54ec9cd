-- The tables from a first one to a last one, and their pages.
use Rattle.std.specs.Prelude.{ℕ, ◌≤◌, nat_le, Bool, ◌&&◌}
use Rattle.ds_base.specs.Pages.{heap_set, index_set}
use Rattle.ds_base.specs.declared.names.PageId.{PageId}
use Rattle.redone_pages.specs.declared.range.TableRange.{TableRange}

abbrev pub has_table : TableRange → ℕ → Bool
has_table range table = nat_le range.first table && nat_le table range.last

-- the page set is that of a heap or of an index of one of the tables
abbrev pub has_set : TableRange → ℕ → Bool
has_set range set = nat_le (heap_set range.first) set && nat_le set (index_set range.last)

abbrev pub has_page : TableRange → PageId → Bool
has_page range id = has_set range id.set

-- the same as facts
abbrev pub HasTable : TableRange → ℕ → Type 0
HasTable range table = (range.first ≤ table) × (table ≤ range.last)

abbrev pub HasSet : TableRange → ℕ → Type 0
HasSet range set = (heap_set range.first ≤ set) × (set ≤ index_set range.last)

abbrev pub HasPage : TableRange → PageId → Type 0
HasPage range id = HasSet range id.set
