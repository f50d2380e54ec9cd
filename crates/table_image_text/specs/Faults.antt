-- Where bytes are no image of a table.
use Rattle.std.specs.Prelude.{ℕ, zero, suc, ◌+◌, ◌==◌, nat_lt, nat_le, Bool, true, if◌then◌else◌, List, take, length, slice_index, Option, Some, None}
use Rattle.std.specs.Str.{bytes_eq}
use Rattle.ds_base.specs.Ids.{lrsn_width}
use Rattle.page_format.specs.Fields.{page_size, number_in}
use Rattle.table_image_text.specs.Pages.{fault_up_to}
use Rattle.table_image_text.specs.Image.{mark, version, mark_at, version_at, table_at, lrsn_at, heap_at, index_at, page_name, heap_in, index_in, place_of, page_in}

-- the first of both, where there is one
abbrev pub or_else : Option ℕ → Option ℕ → Option ℕ
or_else (Some at) other = Some at
or_else None other = other

-- ---- fields of the head

-- of a field so wide that begins here: the image ends before it is whole, or it isn't right
abbrev pub field_fault : List ℕ → ℕ → ℕ → Bool → Option ℕ
field_fault bytes at width right =
    if nat_lt (length bytes) (at + width) then Some (length bytes)
    else if right then None
    else Some at

abbrev pub mark_fault : List ℕ → Option ℕ
mark_fault bytes = field_fault bytes mark_at 4 (bytes_eq (take 4 bytes) mark)

abbrev pub version_fault : List ℕ → Option ℕ
version_fault bytes = field_fault bytes version_at 1 (slice_index bytes version_at == version)

abbrev pub table_fault : List ℕ → ℕ → Option ℕ
table_fault bytes table = field_fault bytes table_at 1 (slice_index bytes table_at == table)

-- what is told without the logs: the mark, the version and the table
abbrev pub name_fault : List ℕ → ℕ → Option ℕ
name_fault bytes table = or_else (mark_fault bytes) (or_else (version_fault bytes) (table_fault bytes table))

-- the number (LRSN) isn't above the greatest one of the logs
abbrev pub lrsn_fault : List ℕ → ℕ → Option ℕ
lrsn_fault bytes greatest = field_fault bytes lrsn_at lrsn_width (nat_le (number_in bytes lrsn_at lrsn_width) greatest)

abbrev pub counts_fault : List ℕ → Option ℕ
counts_fault bytes = or_else (field_fault bytes heap_at 4 true) (field_fault bytes index_at 4 true)

-- ---- pages

abbrev pub behind : ℕ → Option ℕ → Option ℕ
behind place None = None
behind place (Some at) = Some (place + at)

-- of the page at this place: the image ends before it is whole, or it can't stand there
abbrev pub fault_in_page : List ℕ → ℕ → ℕ → ℕ → ℕ → Option ℕ
fault_in_page bytes table greatest heap n =
    if nat_lt (length bytes) (place_of n + page_size) then Some (length bytes)
    else behind (place_of n) (fault_up_to greatest (page_name table heap n) (page_in bytes n))

-- of so many pages from this place on
abbrev pub fault_in_pages : List ℕ → ℕ → ℕ → ℕ → ℕ → ℕ → Option ℕ
fault_in_pages bytes table greatest heap n zero = None
fault_in_pages bytes table greatest heap n (suc more) = or_else (fault_in_page bytes table greatest heap n) (fault_in_pages bytes table greatest heap (suc n) more)

-- the image goes on behind its pages
abbrev pub end_fault : List ℕ → ℕ → Option ℕ
end_fault bytes count = if nat_lt (place_of count) (length bytes) then Some (place_of count) else None

-- ---- the whole image

abbrev pub pages_fault : List ℕ → ℕ → ℕ → Option ℕ
pages_fault bytes table greatest = or_else (fault_in_pages bytes table greatest (heap_in bytes) 0 (heap_in bytes + index_in bytes)) (end_fault bytes (heap_in bytes + index_in bytes))

-- the first byte of the first field that isn't allowed, names another table or has a number above this one, of the head or of a page; or
-- where the image ends before its pages, or doesn't end behind them
unfoldable pub image_fault : List ℕ → ℕ → ℕ → Option ℕ
image_fault bytes table greatest = or_else (name_fault bytes table) (or_else (lrsn_fault bytes greatest) (or_else (counts_fault bytes) (pages_fault bytes table greatest)))
