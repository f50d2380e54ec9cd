-- Where pages of version 1 are looked for, behind all undo.
use Rattle.std.specs.Prelude.{ℕ, ◌+◌, ◌-◌, ◌^◌, ◌==◌, nat_lt, nat_le, ◌&&◌, if◌then◌else◌, List, Option, None, Some, Result, Ok, Err}
use Rattle.ds_base.specs.declared.names.PageId.{PageId}
use Rattle.page_format.specs.Header.{header_of}
use Rattle.page_format.specs.declared.header.Header.{Header}
use Rattle.page_format.specs.declared.header.NotAPage.{NotAPage}
use Rattle.page_format.specs.declared.header.PageKind.{PageKind}
use Rattle.page_format.specs.declared.header.PageKind.TheVariants as kind
use Rattle.heap_space.specs.Layout.{last_page_at}
use Rattle.heap_space.specs.Next.{last_page_of}
use Rattle.index_leaf.specs.Changes.{next_at, next_page_of}

abbrev pub page_sets : ℕ
page_sets = 128

abbrev pub page_of : ℕ → ℕ → PageId
page_of set number = record { set = set; number = number }

abbrev pub first_page : PageId
first_page = page_of 1 0

-- ---- how far the header page of a page set counts

abbrev pub not_at : ℕ → NotAPage
not_at at = record { at = at }

-- a page may follow the last one of a heap
abbrev pub last_of_heap : ℕ → Result ℕ NotAPage
last_of_heap last = if nat_lt last (2 ^ 32 - 1) then Ok last else Err (not_at last_page_at)

-- all before the next free page of an index, which has a branch and a leaf at least behind its header
abbrev pub last_of_index : ℕ → Result ℕ NotAPage
last_of_index next = if nat_le 3 next && nat_lt next (2 ^ 32 - 1) then Ok (next - 1) else Err (not_at next_at)

-- a page of another kind leaves it as it was
abbrev pub last_by_kind : ℕ → PageKind → List ℕ → Result ℕ NotAPage
last_by_kind last kind.HeapHeader page = last_of_heap (last_page_of page)
last_by_kind last kind.IndexHeader page = last_of_index (next_page_of page)
last_by_kind last kind.Empty page = Ok last
last_by_kind last kind.Heap page = Ok last
last_by_kind last kind.Branch page = Ok last
last_by_kind last kind.Leaf page = Ok last

-- nothing is known of a page set of which page 0 is read
abbrev pub last_before : ℕ → PageId → ℕ
last_before last id = if id.number == 0 then 0 else last

abbrev pub last_by : ℕ → Result Header NotAPage → List ℕ → Result ℕ NotAPage
last_by last (Err fault) page = Err fault
last_by last (Ok header) page = last_by_kind last header.kind page

-- the last page of the set, once the page of this name is read, or the first field that can't stand there
abbrev pub last_behind : ℕ → PageId → List ℕ → Result ℕ NotAPage
last_behind last id page = last_by (last_before last id) (header_of page id) page

-- ---- the pages in their order

-- up to the last page of its set, and then of the next page set
abbrev pub page_behind : ℕ → PageId → Option PageId
page_behind last id =
    if nat_lt id.number last then Some (page_of id.set (id.number + 1))
    else if nat_lt id.set page_sets then Some (page_of (id.set + 1) 0)
    else None
