-- What log records make of the pages, one after the other, and what redo makes of a page that has had some of them.
use Rattle.std.specs.Prelude.{◌≡◌, ℕ, ◌<◌, ◌≤◌, nat_lt, nat_le, Bool, true, false, if◌then◌else◌, List, [], ◌∷◌, ◌++◌, filter}
use Rattle.std.specs.List.{list_any, AllByRecursion}
use Rattle.ds_base.specs.declared.names.PageId.{PageId}
use Rattle.ds_model.specs.declared.log.LogRecord.{LogRecord}
use Rattle.ds_model.specs.declared.log.RowChange.{RowChange}
use Rattle.ds_model.specs.declared.log.Body.{Body}
use Rattle.ds_model.specs.declared.log.Body.TheVariants as body
use Rattle.ds_model.specs.RecordBytes.{IsAllowed}
use Rattle.page_images.specs.Given.{lrsn_of}
use Rattle.page_images.specs.Given.{Patch}
use Rattle.ds_base.specs.Pages.{same_page, heap_page}
use Rattle.page_images.specs.Given.{slot_at}
use Rattle.page_images.specs.Given.{image}
use Rattle.page_images.specs.Given.{written}
use Rattle.page_images.specs.Images.{Images, zeros, after_change}

-- ---- records as changes of pages

-- the patch that gives the row's slot the row afterwards
abbrev pub row_patch : RowChange → Patch
row_patch c = record { page = heap_page c.table c.place.page; offset = slot_at c.place.slot; bytes = image c.key c.after }

abbrev pub changes_of : Body → List Patch
changes_of (body.RowChange c) = row_patch c ∷ []
changes_of (body.Compensation c undone) = row_patch c ∷ []
changes_of (body.System patches) = patches
changes_of body.Commit = []
changes_of body.Ended = []
changes_of (body.Checkpoint offset) = []
changes_of body.RestartEnd = []

-- whether the record changes the page
abbrev pub touches : PageId → LogRecord → Bool
touches id r = list_any (λ (p : Patch). same_page p.page id) (changes_of r.body)

abbrev pub after_record : PageId → List ℕ → LogRecord → List ℕ
after_record id page r = written id r.lrsn (changes_of r.body) page

-- ---- versions

-- the page after these records, from these bytes on
abbrev pub version_from : PageId → List ℕ → List LogRecord → List ℕ
version_from id page [] = page
version_from id page (r ∷ rs) = version_from id (after_record id page r) rs

-- the page after these records, which was all zeros before
abbrev pub version_of : PageId → List LogRecord → List ℕ
version_of id records = version_from id zeros records

-- all pages after these records
abbrev pub images_of : List LogRecord → Images
images_of records = λ id. version_of id records

-- the bytes are the page after some of these records, from the first on
pub record IsVersion (id : PageId) (records : List LogRecord) (page : List ℕ) : Type 0 where
  pub first : List LogRecord
  pub rest : List LogRecord
  pub whole : records ≡ first ++ rest
  pub bytes : page ≡ version_of id first

-- ---- redo: a record is applied where its number is above the page's

abbrev pub redo : PageId → List ℕ → List LogRecord → List ℕ
redo id page [] = page
redo id page (r ∷ rs) = redo id (if nat_lt (lrsn_of page) r.lrsn then after_record id page r else page) rs

-- ---- the order of records

-- the number is greater than this one, or no less where the record changes no page
abbrev pub Follows : ℕ → LogRecord → List Patch → Type 0
Follows low r [] = low ≤ r.lrsn
Follows low r (p ∷ ps) = low < r.lrsn

-- the numbers of those that change pages rise
abbrev pub AreInOrder : ℕ → List LogRecord → Type 0
AreInOrder low [] = Unit {0}
AreInOrder low (r ∷ rs) = Follows low r (changes_of r.body) × AreInOrder r.lrsn rs

-- records that may stand in logs, in the order of their numbers
abbrev pub AreRecords : List LogRecord → Type 0
AreRecords records = AllByRecursion IsAllowed records × AreInOrder 0 records

-- those whose number is no greater
abbrev pub up_to : ℕ → List LogRecord → List LogRecord
up_to number records = filter (λ (r : LogRecord). nat_le r.lrsn number) records

-- ---- laws

-- the pages after one record more
abbrev pub GrowsByRecords : Type 0
GrowsByRecords = (records : List LogRecord) (r : LogRecord) (id : PageId) → images_of (records ++ r ∷ []) id ≡ after_change r.lrsn (changes_of r.body) (images_of records) id

-- a page that a record doesn't change stays
abbrev pub LeavesOthers : Type 0
LeavesOthers = (r : LogRecord) (id : PageId) (page : List ℕ) → touches id r ≡ false → after_record id page r ≡ page

-- a version's number is none above those of its records, and that of the record where it is changed by the last
abbrev pub BearsItsNumber : Type 0
BearsItsNumber = (records : List LogRecord) (r : LogRecord) (id : PageId) → AreRecords (records ++ r ∷ []) → touches id r ≡ true → lrsn_of (version_of id (records ++ r ∷ [])) ≡ r.lrsn

-- redo of all records leads from each version to the last one
abbrev pub RedoReaches : Type 0
RedoReaches = (first rest : List LogRecord) (id : PageId) → AreRecords (first ++ rest) → redo id (version_of id first) (first ++ rest) ≡ version_of id (first ++ rest)

-- a page is a version of the records up to its number, so what is on disk needs no others
abbrev pub NumberTells : Type 0
NumberTells = (records : List LogRecord) (id : PageId) (number : ℕ) → AreRecords records → lrsn_of (version_of id records) ≤ number → version_of id (up_to number records) ≡ version_of id records
