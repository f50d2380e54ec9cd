-- Pages in a map by their names, where those that it lacks are zeros.
use Rattle.std.specs.Prelude.{◌≡◌, ℕ, cond, List, Option, None, Some}
use Rattle.std.specs.Map.{lookup}
use Rattle.std.specs.BTreeMap.{is_at}
use Rattle.ds_base.specs.declared.names.PageId.{PageId}
use Rattle.ds_model.specs.declared.log.LogRecord.{LogRecord}
use Rattle.page_format.specs.declared.patch.Patch.{Patch}
use Rattle.page_images.specs.Images.{Images, zeros, after_change}
use Rattle.page_chain.specs.Chains.{images_of}
use Rattle.page_records.specs.Pages.{page_cmp}
use Rattle.redone_pages.specs.declared.range.TableRange.{TableRange}
use Rattle.redone_pages.specs.Ranges.{HasPage}

abbrev pub or_zeros : Option (List ℕ) → List ℕ
or_zeros None = zeros
or_zeros (Some page) = page

-- the pages of a map with these entries
abbrev pub images_in : List (PageId × List ℕ) → Images
images_in entries id = or_zeros (lookup (is_at (page_cmp id)) entries)

-- the map has the pages of the tables as these records make them
abbrev pub AreImages : TableRange → List (PageId × List ℕ) → List LogRecord → Type 0
AreImages range entries records = (id : PageId) → HasPage range id → images_in entries id ≡ images_of records id

-- the map after this page was taken out of it
abbrev pub IsTaken : PageId → List (PageId × List ℕ) → List (PageId × List ℕ) → Type 0
IsTaken id before after = (q : PageId) → lookup (is_at (page_cmp q)) after ≡ cond (is_at (page_cmp id) q) None (lookup (is_at (page_cmp q)) before)

-- the pages of the tables after the patches of a change with this LRSN
abbrev pub AreAfter : TableRange → ℕ → List Patch → List (PageId × List ℕ) → List (PageId × List ℕ) → Type 0
AreAfter range lrsn patches before after = (id : PageId) → HasPage range id → images_in after id ≡ after_change lrsn patches (images_in before) id
