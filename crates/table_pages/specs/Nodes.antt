-- Branches and leaves, as tests.
use Rattle.std.specs.Prelude.{ℕ, zero, suc, ◌+◌, ◌==◌, nat_le, Bool, true, not, ◌&&◌, ◌||◌, List, drop, slice_index, Option, is_none, is_some}
use Rattle.std.specs.List.{list_all}
use Rattle.ds_base.specs.declared.names.PageId.{PageId}
use Rattle.ds_base.specs.declared.names.Place.{Place}
use Rattle.page_format.specs.Header.{is_zeros, header_of}
use Rattle.page_format.specs.declared.header.PageKind.TheVariants as kind
use Rattle.index_leaf.specs.declared.layout.Entry.{Entry}
use Rattle.index_leaf.specs.Entries.{has_high_at, right_at, count_of, low_of, high_of, high_field, right_field, entries_of}
use Rattle.index_leaf.specs.Search.{is_beyond}
use Rattle.index_leaf.specs.Changes.{entry_offset}
use Rattle.page_images.specs.Parts.{part}
use Rattle.sound_disk.specs.Layouts.{has_clean_header}
use Rattle.table_pages.specs.Kinds.{has_kind, both_or_neither}

abbrev pub node_kind : PageId → List ℕ → Bool
node_kind id page = has_kind kind.Branch (header_of page id) || has_kind kind.Leaf (header_of page id)

abbrev pub entry_fits : Bool → ℕ → Option ℕ → ℕ → Place → Bool
entry_fits is_branch low high key place = nat_le low key && (not (is_beyond high key) && (not is_branch || (place.slot == 0)))

abbrev pub entries_fit : Bool → ℕ → Option ℕ → List Entry → Bool
entries_fit is_branch low high entries = list_all (λ (e : Entry). entry_fits is_branch low high e.key e.place) entries

abbrev pub links_fit : List ℕ → Bool
links_fit page =
    nat_le (slice_index page has_high_at) 1
    && ((is_some (high_of page) || (high_field page == 0))
    && both_or_neither (right_field page == 0) (is_none (high_of page)))

abbrev pub padding_fits : List ℕ → ℕ → Bool
padding_fits page n = is_zeros (part (entry_offset n + 14) 2 page)

abbrev pub paddings_fit : List ℕ → ℕ → Bool
paddings_fit page zero = true
paddings_fit page (suc n) = paddings_fit page n && padding_fits page n

abbrev pub clean_fits : List ℕ → Bool
clean_fits page =
    is_zeros (part (has_high_at + 1) 3 page)
    && (is_zeros (part (right_at + 4) 8 page)
    && (paddings_fit page (count_of page)
    && is_zeros (drop (entry_offset (count_of page)) page)))

abbrev pub node_fits : PageId → List ℕ → Bool
node_fits id page =
    node_kind id page
    && (entries_fit (has_kind kind.Branch (header_of page id)) (low_of page) (high_of page) (entries_of page)
    && (links_fit page
    && (has_clean_header page
    && clean_fits page)))
