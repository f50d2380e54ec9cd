-- The first change of records that didn't meet its row, or took a slot from its key, as far as some pages go.
use Rattle.std.specs.Prelude.{◌≡◌, ℕ, zero, suc, ◌<◌, ◌==◌, nat_lt, Bool, true, false, ◌&&◌, ◌||◌, if◌then◌else◌, List, [], ◌∷◌, length, take, Option, None, Some}
use Rattle.ds_base.specs.Pages.{heap_page}
use Rattle.ds_base.specs.declared.names.PageId.{PageId}
use Rattle.ds_model.specs.declared.log.LogRecord.{LogRecord}
use Rattle.ds_model.specs.declared.log.RowChange.{RowChange}
use Rattle.ds_model.specs.declared.log.Body.{Body}
use Rattle.ds_model.specs.declared.log.Body.TheVariants as body
use Rattle.page_format.specs.declared.patch.Patch.{Patch}
use Rattle.page_images.specs.Images.{Images, after_change}
use Rattle.page_chain.specs.Chains.{images_of}
use Rattle.sound_disk.specs.Rows_there.{Stood}
use Rattle.redone_pages.specs.Ranges.{has_page}
use Rattle.heap_rows.specs.Left.{AreLeft}
use Rattle.stood_rows.specs.Owners.{StayOn}
use Rattle.stood_rows.specs.declared.unstood.Unstood.{Unstood}
use Rattle.stood_rows.specs.declared.scan.Standing.{Standing}

abbrev pub item_at : {X : Type 0} → List X → ℕ → Option X
item_at [] i = None
item_at (x ∷ xs) zero = Some x
item_at (x ∷ xs) (suc i) = item_at xs i

-- ---- the changes of one record

-- the slots of the patch's page stay their keys'
abbrev pub StaysThere : Images → Images → Option Patch → Type 0
StaysThere before behind None = Unit {0}
StaysThere before behind (Some p) = StayOn before behind p.page

-- the change at this place among those of a record with this number stood
abbrev pub PartStood : List LogRecord → ℕ → Body → ℕ → Type 0
PartStood earlier lrsn (body.RowChange c) k = Stood earlier c
PartStood earlier lrsn (body.Compensation c undone) k = Stood earlier c
PartStood earlier lrsn (body.System patches) k = StaysThere (images_of earlier) (after_change lrsn patches (images_of earlier)) (item_at patches k)
PartStood earlier lrsn body.Commit k = Unit {0}
PartStood earlier lrsn body.Ended k = Unit {0}
PartStood earlier lrsn (body.Checkpoint offset) k = Unit {0}
PartStood earlier lrsn body.RestartEnd k = Unit {0}

abbrev pub patch_page : Option Patch → Option PageId
patch_page None = None
patch_page (Some p) = Some p.page

-- the page of which it is
abbrev pub part_page : Body → ℕ → Option PageId
part_page (body.RowChange c) k = Some (heap_page c.table c.place.page)
part_page (body.Compensation c undone) k = Some (heap_page c.table c.place.page)
part_page (body.System patches) k = patch_page (item_at patches k)
part_page body.Commit k = None
part_page body.Ended k = None
part_page (body.Checkpoint offset) k = None
part_page body.RestartEnd k = None

abbrev pub is_for : (PageId → Bool) → Option PageId → Bool
is_for has None = false
is_for has (Some id) = has id

-- if it is one of these pages, it stood
abbrev pub StoodFor : (PageId → Bool) → List LogRecord → Option LogRecord → ℕ → Type 0
StoodFor has earlier None k = Unit {0}
StoodFor has earlier (Some r) k = is_for has (part_page r.body k) ≡ true → PartStood earlier r.lrsn r.body k

-- it didn't, and is of this page
abbrev pub FailsOn : List LogRecord → Option LogRecord → ℕ → PageId → Type 0
FailsOn earlier None k id = ⊥
FailsOn earlier (Some r) k id = (part_page r.body k ≡ Some id) × (PartStood earlier r.lrsn r.body k → ⊥)

-- ---- those of records

-- the change at the place k of the record at the place i
abbrev pub StoodAt : (PageId → Bool) → List LogRecord → ℕ → ℕ → Type 0
StoodAt has records i k = StoodFor has (take i records) (item_at records i) k

abbrev pub is_before : ℕ → ℕ → Unstood → Bool
is_before i k u = nat_lt i u.index || ((i == u.index) && nat_lt k u.patch)

-- this is the first change of these pages that didn't stand
pub record IsFirst (has : PageId → Bool) (records : List LogRecord) (u : Unstood) : Type 0 where
  pub passes : has u.page ≡ true
  pub fails : FailsOn (take u.index records) (item_at records u.index) u.patch u.page
  pub before : (i k : ℕ) → is_before i k u ≡ true → StoodAt has records i k

-- each change of these pages stood, or this is the first that didn't
abbrev pub AreFound : (PageId → Bool) → List LogRecord → Option Unstood → Type 0
AreFound has records None = (i k : ℕ) → StoodAt has records i k
AreFound has records (Some u) = IsFirst has records u

-- of two the one that stands before the other
abbrev pub sooner : Option Unstood → Option Unstood → Option Unstood
sooner None b = b
sooner (Some a) None = Some a
sooner (Some a) (Some b) = if is_before b.index b.patch a then Some b else Some a

abbrev pub page_in : Option Unstood → Option PageId
page_in None = None
page_in (Some u) = Some u.page

-- ---- what is held behind these records

pub record IsStanding (records : List LogRecord) (it : Standing) : Type 0 where
  pub left : AreLeft records it.rows
  pub taken_is : it.taken ≡ length records
  pub found : AreFound (has_page it.rows.range) records it.first

-- ---- what is told of one record, at this place behind the earlier ones

pub record IsRow (has : PageId → Bool) (earlier : List LogRecord) (at : ℕ) (c : RowChange) (u : Unstood) : Type 0 where
  pub index_is : u.index ≡ at
  pub patch_is : u.patch ≡ 0
  pub page_is : u.page ≡ heap_page c.table c.place.page
  pub passes : has u.page ≡ true
  pub wrong : Stood earlier c → ⊥

abbrev pub IsRowTold : (PageId → Bool) → List LogRecord → ℕ → RowChange → Option Unstood → Type 0
IsRowTold has earlier at c None = has (heap_page c.table c.place.page) ≡ true → Stood earlier c
IsRowTold has earlier at c (Some u) = IsRow has earlier at c u

-- the patch at this place stays, if its page is one of these
abbrev pub StaysAt : (PageId → Bool) → Images → ℕ → List Patch → ℕ → Type 0
StaysAt has at lrsn patches k = is_for has (patch_page (item_at patches k)) ≡ true → StaysThere at (after_change lrsn patches at) (item_at patches k)

pub record IsPatch (has : PageId → Bool) (earlier : List LogRecord) (at lrsn : ℕ) (patches : List Patch) (u : Unstood) : Type 0 where
  pub index_is : u.index ≡ at
  pub page_is : patch_page (item_at patches u.patch) ≡ Some u.page
  pub passes : has u.page ≡ true
  pub wrong : StaysThere (images_of earlier) (after_change lrsn patches (images_of earlier)) (item_at patches u.patch) → ⊥
  pub before : (k : ℕ) → k < u.patch → StaysAt has (images_of earlier) lrsn patches k

abbrev pub ArePatchesTold : (PageId → Bool) → List LogRecord → ℕ → ℕ → List Patch → Option Unstood → Type 0
ArePatchesTold has earlier at lrsn patches None = (k : ℕ) → StaysAt has (images_of earlier) lrsn patches k
ArePatchesTold has earlier at lrsn patches (Some u) = IsPatch has earlier at lrsn patches u

abbrev pub IsNone : Option Unstood → Type 0
IsNone None = Unit {0}
IsNone (Some u) = ⊥

abbrev pub IsTold : (PageId → Bool) → List LogRecord → ℕ → ℕ → Body → Option Unstood → Type 0
IsTold has earlier at lrsn (body.RowChange c) found = IsRowTold has earlier at c found
IsTold has earlier at lrsn (body.Compensation c undone) found = IsRowTold has earlier at c found
IsTold has earlier at lrsn (body.System patches) found = ArePatchesTold has earlier at lrsn patches found
IsTold has earlier at lrsn body.Commit found = IsNone found
IsTold has earlier at lrsn body.Ended found = IsNone found
IsTold has earlier at lrsn (body.Checkpoint offset) found = IsNone found
IsTold has earlier at lrsn body.RestartEnd found = IsNone found
