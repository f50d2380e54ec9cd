-- Maps as the lists of their entries, in the order of the keys.
use Rattle.std.specs.Prelude.{ℕ, List, Option}
use Rattle.std.specs.Ordering.{nat_cmp}
use Rattle.std.specs.BTreeMap.{is_at, insert_entry}
use Rattle.std.specs.Map.{lookup}
use Rattle.ds_base.specs.declared.names.PageId.{PageId}
use Rattle.ds_model.specs.Rows.{Spot, spot_cmp}
use Rattle.page_records.specs.Pages.{page_cmp}
use Rattle.restart_records.specs.declared.names.NameMark.{NameMark}

-- ---- the places of records by the pages that they change

abbrev pub PagePlaces : Type 0
PagePlaces = List (PageId × List ℕ)

abbrev pub places_at : PagePlaces → PageId → Option (List ℕ)
places_at es page = lookup (is_at (page_cmp page)) es

abbrev pub with_places : PagePlaces → PageId → List ℕ → PagePlaces
with_places es page places = insert_entry page_cmp es page places

-- ---- places by numbers

abbrev pub NumberPlaces : Type 0
NumberPlaces = List (ℕ × ℕ)

abbrev pub place_at : NumberPlaces → ℕ → Option ℕ
place_at es n = lookup (is_at (nat_cmp n)) es

abbrev pub with_place : NumberPlaces → ℕ → ℕ → NumberPlaces
with_place es n place = insert_entry nat_cmp es n place

-- ---- the marks of rows

abbrev pub RowMarks : Type 0
RowMarks = List (Spot × NameMark)

abbrev pub row_at : RowMarks → Spot → Option NameMark
row_at es s = lookup (is_at (spot_cmp s)) es

abbrev pub with_row : RowMarks → Spot → NameMark → RowMarks
with_row es s mark = insert_entry spot_cmp es s mark
