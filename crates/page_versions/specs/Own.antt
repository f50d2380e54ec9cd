-- A page as the records at some places of a list make it.
use Rattle.std.specs.Prelude.{◌≡◌, ℕ, Bool, false, ◌||◌, cond, List, [], ◌∷◌, Option, None, Some, slice_get}
use Rattle.std.specs.Str.{bytes_eq}
use Rattle.ds_base.specs.Pages.{same_page}
use Rattle.ds_base.specs.declared.names.PageId.{PageId}
use Rattle.ds_model.specs.declared.log.LogRecord.{LogRecord}
use Rattle.page_chain.specs.Chains.{after_record}
use Rattle.page_records.specs.Pages.{page_cmp}
use Rattle.page_records.specs.declared.places.PageRecords.{PageRecords}
use Rattle.std.specs.declared.cmp.Ordering.TheVariants.{Less}

-- the places that the list has for the page, none where it isn't there
abbrev pub places_at : PageId → List PageRecords → List ℕ
places_at id [] = []
places_at id (p ∷ ps) = cond (same_page p.page id) p.places (places_at id ps)

-- all pages of the list come after this one
abbrev pub AreAbove : PageId → List PageRecords → Type 0
AreAbove id [] = Unit {0}
AreAbove id (p ∷ ps) = (page_cmp id p.page ≡ Less) × AreAbove id ps

-- its pages rise
abbrev pub Rise : List PageRecords → Type 0
Rise [] = Unit {0}
Rise (p ∷ ps) = AreAbove p.page ps × Rise ps

-- the page after the record at a place, where there is one
abbrev pub after_place : PageId → List ℕ → Option LogRecord → List ℕ
after_place id page None = page
after_place id page (Some r) = after_record id page r

-- the page after the records at these places, from these bytes on
abbrev pub version_at : PageId → List LogRecord → List ℕ → List ℕ → List ℕ
version_at id records page [] = page
version_at id records page (n ∷ ns) = version_at id records (after_place id page (slice_get records n)) ns

-- the page is what one of them or more make of the image, from the first on
abbrev pub is_later_at : PageId → List LogRecord → List ℕ → List ℕ → List ℕ → Bool
is_later_at id records page image [] = false
is_later_at id records page image (n ∷ ns) =
    bytes_eq (after_place id image (slice_get records n)) page || is_later_at id records page (after_place id image (slice_get records n)) ns

-- or the image itself
abbrev pub is_from_at : PageId → List LogRecord → List ℕ → List ℕ → List ℕ → Bool
is_from_at id records page image places = bytes_eq image page || is_later_at id records page image places
