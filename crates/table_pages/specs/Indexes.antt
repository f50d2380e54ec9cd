-- Pages of an index, as tests.
use Rattle.std.specs.Prelude.{ℕ, ◌+◌, ◌-◌, ◌^◌, nat_le, nat_lt, Bool, ◌&&◌, List, drop}
use Rattle.ds_base.specs.declared.names.PageId.{PageId}
use Rattle.page_format.specs.Header.{is_zeros, header_of}
use Rattle.page_format.specs.declared.header.PageKind.TheVariants as kind
use Rattle.index_leaf.specs.Changes.{next_at, next_page_of}
use Rattle.sound_disk.specs.Layouts.{has_clean_header}
use Rattle.table_pages.specs.Kinds.{has_kind}

abbrev pub is_next : ℕ → Bool
is_next n = nat_le 3 n && nat_lt n (2 ^ 32 - 1)

abbrev pub is_index_header : PageId → List ℕ → Bool
is_index_header id page =
    has_kind kind.IndexHeader (header_of page id)
    && (has_clean_header page
    && (is_next (next_page_of page)
    && is_zeros (drop (next_at + 4) page)))
