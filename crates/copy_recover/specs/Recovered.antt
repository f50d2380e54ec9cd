-- What a recovery makes of the pages of a table.
use Rattle.std.specs.Prelude.{ℕ, zero, suc, ◌+◌, ◌==◌, nat_lt, Bool, not, ◌&&◌, ◌||◌, if◌then◌else◌, List, [], ◌∷◌, ◌++◌, filter, map, Result, Ok, Err}
use Rattle.std.specs.List.{count_by}
use Rattle.ds_base.specs.Pages.{heap_set, index_set}
use Rattle.ds_base.specs.declared.names.PageId.{PageId}
use Rattle.ds_model.specs.declared.log.LogRecord.{LogRecord}
use Rattle.page_format.specs.Header.{is_zeros}
use Rattle.page_images.specs.Images.{Images, zeros}
use Rattle.page_records.specs.Places.{by_page}
use Rattle.page_records.specs.declared.places.PageRecords.{PageRecords}
use Rattle.page_redo.specs.Forward.{Forward, brought_forward}
use Rattle.page_redo.specs.Pages.{has_page}
use Rattle.page_redo.specs.declared.fault.FieldFault.{FieldFault}
use Rattle.table_image_text.specs.Image.{heap_in, index_in, page_name, page_in}

-- ---- the pages that are written

-- the page is one of so many of the set
abbrev pub is_held_of : ℕ → ℕ → PageId → Bool
is_held_of set count id = (id.set == set) && nat_lt id.number count

-- the image holds the page
abbrev pub holds : List ℕ → ℕ → PageId → Bool
holds image table id = is_held_of (heap_set table) (heap_in image) id || is_held_of (index_set table) (index_in image) id

-- the page is one of the table's
abbrev pub is_of_table : ℕ → PageId → Bool
is_of_table table id = (id.set == heap_set table) || (id.set == index_set table)

-- the first so many pages of the image
abbrev pub names_in : ℕ → ℕ → ℕ → List PageId
names_in table heap zero = []
names_in table heap (suc n) = names_in table heap n ++ page_name table heap n ∷ []

-- the records change it, and it is one of the table's that the image doesn't hold
abbrev pub is_more : List ℕ → ℕ → PageId → Bool
is_more image table id = is_of_table table id && not (holds image table id)

abbrev pub more_names : List ℕ → ℕ → List PageRecords → List PageId
more_names image table changed = filter (is_more image table) (map (λ (p : PageRecords). p.page) changed)

-- all pages of the image, in their order, and then those of the table that only the records name, in the order of their names
abbrev pub written_names : List ℕ → ℕ → List LogRecord → List PageId
written_names image table records = names_in table (heap_in image) (heap_in image + index_in image) ++ more_names image table (by_page records)

-- ---- what is written

-- the place of a page in the image
abbrev pub place_in : List ℕ → ℕ → PageId → ℕ
place_in image table id = if id.set == heap_set table then id.number else heap_in image + id.number

-- the page of the image, or zeros where it holds none
abbrev pub taken_from : List ℕ → ℕ → PageId → List ℕ
taken_from image table id = if holds image table id then page_in image (place_in image table id) else zeros

-- the page of this name, brought forward by the records
unfoldable pub recovered : List ℕ → ℕ → List LogRecord → PageId → Forward
recovered image table records id = brought_forward id (taken_from image table id) records

-- all pages behind a recovery that has written these
unfoldable pub with_written : List ℕ → ℕ → List LogRecord → List PageId → Images → Images
with_written image table records written at = λ id. if has_page written id then (recovered image table records id).page else at id

abbrev pub is_some_page : List ℕ → ℕ → List LogRecord → PageId → Bool
is_some_page image table records id = not (is_zeros (recovered image table records id).page)

-- how many of these aren't all zeros
unfoldable pub count_of : List ℕ → ℕ → List LogRecord → List PageId → ℕ
count_of image table records written = count_by (is_some_page image table records) written

-- no field is in the way of a record
abbrev pub IsOk : Result Bool FieldFault → Type 0
IsOk (Ok raised) = Unit {0}
IsOk (Err fault) = ⊥
