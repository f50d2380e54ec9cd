-- What the header of a page says, and where it can't be the header of that page.
use Rattle.std.specs.Prelude.{ℕ, ◌%◌, ◌==◌, nat_le, Bool, false, not, ◌&&◌, ◌||◌, if◌then◌else◌, List, [], ◌∷◌, take, slice_index, Option, Some, None, Result, Ok, Err}
use Rattle.std.specs.List.{list_all}
use Rattle.std.specs.Str.{bytes_eq}
use Rattle.ds_base.specs.declared.names.PageId.{PageId}
use Rattle.page_format.specs.Fields.{mark_at, kind_at, version_at, set_at, number_at, lrsn_at, count_at, version, old_version, number_in, lrsn_of}
use Rattle.page_format.specs.declared.header.Header.{Header}
use Rattle.page_format.specs.declared.header.NotAPage.{NotAPage}
use Rattle.page_format.specs.declared.header.PageKind.{PageKind}
use Rattle.page_format.specs.declared.header.PageKind.TheVariants as kind

-- ---- kinds

-- the kind of this number, and Empty for a number that stands in no header
abbrev pub kind_of : ℕ → PageKind
kind_of n =
    if n == 1 then kind.HeapHeader
    else if n == 2 then kind.Heap
    else if n == 3 then kind.IndexHeader
    else if n == 4 then kind.Branch
    else if n == 5 then kind.Leaf
    else kind.Empty

abbrev pub is_heap : PageId → Bool
is_heap id = id.set % 2 == 1

abbrev pub is_first : PageId → Bool
is_first id = id.number == 0

-- whether the header of this page may have the kind
abbrev pub may_have : PageId → PageKind → Bool
may_have id kind.Empty = false
may_have id kind.HeapHeader = is_heap id && is_first id
may_have id kind.Heap = is_heap id && not (is_first id)
may_have id kind.IndexHeader = not (is_heap id) && is_first id
may_have id kind.Branch = not (is_heap id) && not (is_first id)
may_have id kind.Leaf = not (is_heap id) && not (is_first id)

abbrev pub slots_per_page : ℕ
slots_per_page = 31

abbrev pub entries_per_page : ℕ
entries_per_page = 252

-- the greatest count of a page of the kind
abbrev pub most : PageKind → ℕ
most kind.Empty = 0
most kind.HeapHeader = 0
most kind.Heap = slots_per_page
most kind.IndexHeader = 0
most kind.Branch = entries_per_page
most kind.Leaf = entries_per_page

-- ---- fields

-- whether a page may be of the version
abbrev pub is_version : ℕ → Bool
is_version n = n == old_version || n == version

-- DSG1
abbrev pub mark : List ℕ
mark = 0x44 ∷ 0x53 ∷ 0x47 ∷ 0x31 ∷ []

abbrev pub header_in : List ℕ → Header
header_in page = record {
  kind = kind_of (slice_index page kind_at);
  lrsn = lrsn_of page;
  count = number_in page count_at 2;
}

-- the offset of each field, in rising order, and whether it may stand in the header of this page
abbrev pub fields : List ℕ → PageId → List (ℕ × Bool)
fields page id =
    (mark_at, bytes_eq (take 4 page) mark)
    ∷ (kind_at, may_have id (header_in page).kind)
    ∷ (version_at, is_version (slice_index page version_at))
    ∷ (set_at, number_in page set_at 2 == id.set)
    ∷ (number_at, number_in page number_at 4 == id.number)
    ∷ (lrsn_at, not ((header_in page).lrsn == 0))
    ∷ (count_at, nat_le (header_in page).count (most (header_in page).kind))
    ∷ []

-- the offset of the first field that may not stand there
abbrev pub first_fault : List (ℕ × Bool) → Option ℕ
first_fault [] = None
first_fault (field ∷ rest) = if field.1 then first_fault rest else Some field.0

-- ---- the answer

abbrev pub is_zeros : List ℕ → Bool
is_zeros page = list_all (λ b. b == 0) page

abbrev pub empty_header : Header
empty_header = record { kind = kind.Empty; lrsn = 0; count = 0 }

abbrev pub judged : Option ℕ → Header → Result Header NotAPage
judged None header = Ok header
judged (Some offset) header = Err (record { at = offset })

-- the header of the page of this name that has these bytes
unfoldable pub header_of : List ℕ → PageId → Result Header NotAPage
header_of page id =
    if is_zeros page then Ok empty_header
    else judged (first_fault (fields page id)) (header_in page)
