-- Where in a list of records those stand that change each page.
use Rattle.std.specs.Prelude.{ℕ, ◌+◌, List, [], ◌∷◌, ◌++◌, map, Option, None, Some}
use Rattle.std.specs.FinMap as finite
use Rattle.ds_base.specs.declared.names.PageId.{PageId}
use Rattle.ds_model.specs.declared.log.LogRecord.{LogRecord}
use Rattle.page_redo.specs.Pages.{pages_of}
use Rattle.page_records.specs.Pages.{page_cmp}
use Rattle.page_records.specs.declared.places.PageRecords.{PageRecords}

abbrev pub Places : Type 0
Places = finite.FinMap page_cmp (List ℕ)

abbrev pub places_in : Option (List ℕ) → List ℕ
places_in None = []
places_in (Some places) = places

-- a record at this place changes the page
abbrev pub with_place : ℕ → Places → PageId → Places
with_place n places id = finite.insert places id (places_in (finite.get places id) ++ n ∷ [])

abbrev pub with_places : ℕ → Places → List PageId → Places
with_places n places [] = places
with_places n places (id ∷ ids) = with_places n (with_place n places id) ids

-- the records begin at this place
abbrev pub places_from : ℕ → Places → List LogRecord → Places
places_from n places [] = places
places_from n places (r ∷ rs) = places_from (n + 1) (with_places n places (pages_of r)) rs

abbrev pub page_records : PageId × List ℕ → PageRecords
page_records e = record { page = e.0; places = e.1 }

-- the pages in the order of their names, each with the places of its records, which rise
abbrev pub by_page : List LogRecord → List PageRecords
by_page records = map page_records (finite.entries (places_from 0 finite.empty records))
