-- Which pages may stand on a disk with these records.
use Rattle.std.specs.Prelude.{◌≡◌, ◌↔◌, ℕ, Bool, true, false, not, ◌&&◌, ◌||◌, List, [], ◌∷◌}
use Rattle.std.specs.Str.{bytes_eq}
use Rattle.ds_base.specs.declared.names.PageId.{PageId}
use Rattle.ds_model.specs.declared.log.LogRecord.{LogRecord}
use Rattle.log_record.specs.declared.log.Log.{Log}
use Rattle.page_format.specs.Fields.{is_old}
use Rattle.page_format.specs.Header.{header_of}
use Rattle.page_chain.specs.Chains.{after_record, IsVersion}
use Rattle.sound_disk.specs.Given.{must_renew}
use Rattle.sound_disk.specs.Versions.{merged, is_page, current, MayStand}

-- ---- the page after a front of the records, as a test

-- the page is what one of the records or more make of the image, from the first on
abbrev pub is_later : PageId → List ℕ → List ℕ → List LogRecord → Bool
is_later id page image [] = false
is_later id page image (r ∷ rs) = bytes_eq (after_record id image r) page || is_later id page (after_record id image r) rs

-- or the image itself
abbrev pub is_from : PageId → List ℕ → List ℕ → List LogRecord → Bool
is_from id page image records = bytes_eq image page || is_later id page image records

-- ---- a page of the disk

-- its header may be the page's, and it is of version 2, or pages are still to be renewed
abbrev pub has_header : PageId → Bool → List ℕ → Bool
has_header id renews page = is_page (header_of page id) && (not (is_old page) || renews)

pub record IsPlaced (id : PageId) (records : List LogRecord) (renews : Bool) (page : List ℕ) : Type 0 where
  pub header : has_header id renews page ≡ true
  pub version : IsVersion id records (current page)

-- the third clause of a sound disk says the same of a page
abbrev pub PlacedMayStand : Type 0
PlacedMayStand = (logs : List Log) (id : PageId) (page : List ℕ) → IsPlaced id (merged logs) (must_renew logs) page ↔ MayStand logs id page
