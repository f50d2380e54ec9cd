-- What the records say of rows, and where in the pages these rows stand.
use Rattle.std.specs.Prelude.{◌≡◌, ℕ, ◌<◌, ◌==◌, ◌&&◌, if◌then◌else◌, List, [], ◌∷◌, ◌++◌, Option, None, Some}
use Rattle.ds_base.specs.Ids.{IsTable}
use Rattle.ds_base.specs.Pages.{heap_page}
use Rattle.ds_base.specs.declared.names.Place.{Place}
use Rattle.ds_model.specs.declared.log.LogRecord.{LogRecord}
use Rattle.ds_model.specs.declared.log.RowChange.{RowChange}
use Rattle.ds_model.specs.declared.log.Body.{Body}
use Rattle.ds_model.specs.declared.log.Body.TheVariants as body
use Rattle.page_format.specs.Header.{slots_per_page}
use Rattle.heap_space.specs.Slots.{Content, content, slot_in}
use Rattle.page_images.specs.Images.{Images, after_change}
use Rattle.page_redo.specs.Given.{images_of}
use Rattle.page_redo.specs.Rows.{change_fault}
use Rattle.sound_disk.specs.Layouts.{count_in}

-- ---- by the records

abbrev pub row_by : ℕ → ℕ → Option (List ℕ) → RowChange → Option (List ℕ)
row_by table key row c = if (c.table == table) && (c.key == key) then c.after else row

abbrev pub row_with : ℕ → ℕ → Option (List ℕ) → Body → Option (List ℕ)
row_with table key row (body.RowChange c) = row_by table key row c
row_with table key row (body.Compensation c undone) = row_by table key row c
row_with table key row (body.System patches) = row
row_with table key row body.Commit = row
row_with table key row body.Ended = row
row_with table key row (body.Checkpoint offset) = row
row_with table key row body.RestartEnd = row

abbrev pub row_from : ℕ → ℕ → Option (List ℕ) → List LogRecord → Option (List ℕ)
row_from table key row [] = row
row_from table key row (r ∷ rs) = row_from table key (row_with table key row r.body) rs

-- the row as the last of these records has left it that changed it or took a change of it back; none before the first
abbrev pub row_after : List LogRecord → ℕ → ℕ → Option (List ℕ)
row_after records table key = row_from table key None records

-- ---- in the pages

abbrev pub heap_at : Images → ℕ → ℕ → List ℕ
heap_at at table p = at (heap_page table p)

-- what the slot at the place says
abbrev pub said_at : Images → ℕ → Place → Content
said_at at table place = content (slot_in (heap_at at table place.page) place.slot)

abbrev pub key_in : Content → Option ℕ
key_in None = None
key_in (Some row) = Some row.0

-- the slot at the place was given to the key
pub record IsPlaceOf (at : Images) (table key : ℕ) (place : Place) : Type 0 where
  pub given : place.slot < count_in (heap_at at table place.page)
  pub key_is : key_in (said_at at table place) ≡ Some key

-- ---- the row before each change, and the slots behind other patches

-- the change's slot is there and the key's; it has the row before the change, and that is what the records before left
pub record Stood (earlier : List LogRecord) (c : RowChange) : Type 0 where
  pub slot : change_fault (heap_page c.table c.place.page) c (heap_at (images_of earlier) c.table c.place.page) ≡ None
  pub there : said_at (images_of earlier) c.table c.place ≡ Some (c.key, c.before)
  pub before : row_after earlier c.table c.key ≡ c.before

-- each slot that was given in the pages before is the same key's in those behind
abbrev pub SlotsStay : Images → Images → Type 0
SlotsStay before after = (table key : ℕ) (place : Place) → IsTable table → place.slot < slots_per_page → IsPlaceOf before table key place → IsPlaceOf after table key place

-- a change of a row met it; other patches, under this number, leave each slot to its key
abbrev pub BodyStood : List LogRecord → ℕ → Body → Type 0
BodyStood earlier lrsn (body.RowChange c) = Stood earlier c
BodyStood earlier lrsn (body.Compensation c undone) = Stood earlier c
BodyStood earlier lrsn (body.System patches) = SlotsStay (images_of earlier) (after_change lrsn patches (images_of earlier))
BodyStood earlier lrsn body.Commit = Unit {0}
BodyStood earlier lrsn body.Ended = Unit {0}
BodyStood earlier lrsn (body.Checkpoint offset) = Unit {0}
BodyStood earlier lrsn body.RestartEnd = Unit {0}

-- of each record behind these
abbrev pub BeforesAgree : List LogRecord → List LogRecord → Type 0
BeforesAgree earlier [] = Unit {0}
BeforesAgree earlier (r ∷ rs) = BodyStood earlier r.lrsn r.body × BeforesAgree (earlier ++ r ∷ []) rs
