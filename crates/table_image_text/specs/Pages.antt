-- Which pages may stand in the image of a table, and how many its header pages count.
use Rattle.std.specs.Prelude.{ℕ, ◌+◌, ◌-◌, ◌^◌, nat_lt, nat_le, ◌&&◌, if◌then◌else◌, List, Option, Some, None, Result, Ok, Err}
use Rattle.ds_base.specs.declared.names.PageId.{PageId}
use Rattle.page_format.specs.Fields.{version_at, lrsn_at, lrsn_of, is_old}
use Rattle.page_format.specs.Header.{header_of}
use Rattle.page_format.specs.declared.header.Header.{Header}
use Rattle.page_format.specs.declared.header.NotAPage.{NotAPage}
use Rattle.page_format.specs.declared.header.PageKind.{PageKind}
use Rattle.page_format.specs.declared.header.PageKind.TheVariants as kind
use Rattle.heap_space.specs.Layout.{last_page_at}
use Rattle.heap_space.specs.Next.{last_page_of}
use Rattle.index_leaf.specs.Changes.{next_at, next_page_of}

-- ---- one page

abbrev pub header_fault : Result Header NotAPage → Option ℕ
header_fault (Err e) = Some e.at
header_fault (Ok header) = None

-- of two fields that can't stand there, the first
abbrev pub earlier : ℕ → Option ℕ → Option ℕ
earlier at None = Some at
earlier at (Some other) = if nat_lt other at then Some other else Some at

-- where the page shows that it can't stand in an image: a field of its header isn't the page's, or it is of version 1
abbrev pub page_fault : PageId → List ℕ → Option ℕ
page_fault id page = if is_old page then earlier version_at (header_fault (header_of page id)) else header_fault (header_of page id)

-- nor one whose number (LRSN) is above this one
abbrev pub fault_up_to : ℕ → PageId → List ℕ → Option ℕ
fault_up_to greatest id page = if nat_lt greatest (lrsn_of page) then earlier lrsn_at (page_fault id page) else page_fault id page

-- ---- the pages that a header page counts

abbrev pub not_at : ℕ → NotAPage
not_at at = record { at = at }

-- all to the last page of a heap, its header among them
abbrev pub counted_to : ℕ → Result ℕ NotAPage
counted_to last = if nat_lt last (2 ^ 32 - 1) then Ok (last + 1) else Err (not_at last_page_at)

-- all before the next free page of an index, which has a branch and a leaf at least behind its header
abbrev pub counted_before : ℕ → Result ℕ NotAPage
counted_before next = if nat_le 3 next && nat_lt next (2 ^ 32 - 1) then Ok next else Err (not_at next_at)

abbrev pub counted_in : PageKind → List ℕ → Result ℕ NotAPage
counted_in kind.HeapHeader page = counted_to (last_page_of page)
counted_in kind.IndexHeader page = counted_before (next_page_of page)
counted_in kind.Empty page = Ok 0
counted_in kind.Heap page = Ok 0
counted_in kind.Branch page = Ok 0
counted_in kind.Leaf page = Ok 0

abbrev pub counted_by : Result Header NotAPage → List ℕ → Result ℕ NotAPage
counted_by (Err e) page = Err e
counted_by (Ok header) page = if is_old page then Err (not_at version_at) else counted_in header.kind page

-- how many pages the header page of this name counts, or the first field that can't stand there
abbrev pub pages_counted : PageId → List ℕ → Result ℕ NotAPage
pages_counted id page = counted_by (header_of page id) page

abbrev pub count_or_none : Result ℕ NotAPage → ℕ
count_or_none (Ok count) = count
count_or_none (Err e) = 0
