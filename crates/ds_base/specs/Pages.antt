-- Names of pages.
use Rattle.std.specs.Prelude.{ℕ, ◌-◌, ◌*◌, ◌==◌, Bool, ◌&&◌}
use Rattle.ds_base.specs.declared.names.PageId.{PageId}

abbrev pub same_page : PageId → PageId → Bool
same_page a b = (a.set == b.set) && (a.number == b.number)

-- the page set of a table's heap
abbrev pub heap_set : ℕ → ℕ
heap_set table = 2 * table - 1

-- the page set of a table's index
abbrev pub index_set : ℕ → ℕ
index_set table = 2 * table

abbrev pub heap_page : ℕ → ℕ → PageId
heap_page table number = record { set = heap_set table; number = number }

abbrev pub index_page : ℕ → ℕ → PageId
index_page table number = record { set = index_set table; number = number }
