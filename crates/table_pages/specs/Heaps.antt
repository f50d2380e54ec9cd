-- Pages of a heap, as tests.
use Rattle.std.specs.Prelude.{ℕ, zero, suc, ◌+◌, ◌==◌, nat_le, Bool, true, ◌&&◌, List, drop, is_none}
use Rattle.ds_base.specs.declared.names.PageId.{PageId}
use Rattle.page_format.specs.Header.{slots_per_page, is_zeros, header_of}
use Rattle.page_format.specs.declared.header.PageKind.TheVariants as kind
use Rattle.heap_space.specs.Layout.{given_at, slot_at}
use Rattle.heap_space.specs.Next.{last_page_of, given_of, header_allowed}
use Rattle.heap_space.specs.Slots.{content, slot_in, fault_in}
use Rattle.sound_disk.specs.Layouts.{count_in, has_clean_header}
use Rattle.sound_disk.specs.Heaps.{is_given}
use Rattle.table_pages.specs.Kinds.{has_kind, both_or_neither}

abbrev pub is_heap_header : PageId → List ℕ → Bool
is_heap_header id page =
    has_kind kind.HeapHeader (header_of page id)
    && (has_clean_header page
    && (header_allowed (last_page_of page) (given_of page)
    && (both_or_neither (last_page_of page == 0) (given_of page == 0)
    && is_zeros (drop (given_at + 2) page))))

abbrev pub slot_fits : List ℕ → ℕ → Bool
slot_fits page slot = is_none (fault_in page slot) && is_given (content (slot_in page slot))

-- the first so many slots were given, with fields that may stand there
abbrev pub slots_fit : List ℕ → ℕ → Bool
slots_fit page zero = true
slots_fit page (suc n) = slots_fit page n && slot_fits page n

abbrev pub has_rows : List ℕ → ℕ → Bool
has_rows page count = nat_le count slots_per_page && (slots_fit page count && is_zeros (drop (slot_at count) page))

abbrev pub is_row_page : PageId → List ℕ → Bool
is_row_page id page = has_kind kind.Heap (header_of page id) && (has_clean_header page && has_rows page (count_in page))
