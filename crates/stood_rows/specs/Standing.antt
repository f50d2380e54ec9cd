-- Whether a record met its row, or left each slot to its key.
use Rattle.std.specs.Prelude.{◌≡◌, ℕ, ◌==◌, Bool, false, ◌&&◌, List, [], ◌∷◌, ◌++◌, Option, None, Some, is_none}
use Rattle.std.specs.Str.{bytes_eq}
use Rattle.ds_base.specs.Pages.{heap_page}
use Rattle.ds_base.specs.declared.names.PageId.{PageId}
use Rattle.ds_model.specs.declared.log.LogRecord.{LogRecord}
use Rattle.ds_model.specs.declared.log.RowChange.{RowChange}
use Rattle.ds_model.specs.declared.log.Body.{Body}
use Rattle.ds_model.specs.declared.log.Body.TheVariants as body
use Rattle.heap_space.specs.Slots.{Content, content, slot_in}
use Rattle.page_redo.specs.Rows.{change_fault}
use Rattle.page_chain.specs.Chains.{images_of}
use Rattle.sound_disk.specs.Rows_there.{Stood, BeforesAgree}
use Rattle.stood_rows.specs.Owners.{TakesSlots}

abbrev pub same_value : Option (List ℕ) → List ℕ → Bool
same_value None value = false
same_value (Some row) value = bytes_eq row value

-- the slot was given to the key, and has this row, or none
abbrev pub says : Content → ℕ → Option (List ℕ) → Bool
says None key row = false
says (Some (its, None)) key row = (its == key) && is_none row
says (Some (its, Some value)) key row = (its == key) && same_value row value

-- the slot of the change is there and the key's, and has the row before the change
pub record StandsIn (page : List ℕ) (c : RowChange) : Type 0 where
  pub slot : change_fault (heap_page c.table c.place.page) c page ≡ None
  pub there : content (slot_in page c.place.slot) ≡ Some (c.key, c.before)

-- the change didn't meet the row that it tells, or tells another than was left; this is the page of the row
abbrev pub IsUnstoodChange : List LogRecord → RowChange → PageId → Type 0
IsUnstoodChange earlier c id = (Stood earlier c → ⊥) × (id ≡ heap_page c.table c.place.page)

-- the same of any record, under this number; of other patches it is the page on which they take a slot from its key
abbrev pub IsUnstood : List LogRecord → ℕ → Body → PageId → Type 0
IsUnstood earlier lrsn (body.RowChange c) id = IsUnstoodChange earlier c id
IsUnstood earlier lrsn (body.Compensation c undone) id = IsUnstoodChange earlier c id
IsUnstood earlier lrsn (body.System patches) id = TakesSlots (images_of earlier) lrsn patches id
IsUnstood earlier lrsn body.Commit id = ⊥
IsUnstood earlier lrsn body.Ended id = ⊥
IsUnstood earlier lrsn (body.Checkpoint offset) id = ⊥
IsUnstood earlier lrsn body.RestartEnd id = ⊥

-- the page of the first record whose change didn't meet its row, or tells another than was left, or whose patches take a slot from its key
pub record IsFirstUnstood (records : List LogRecord) (id : PageId) : Type 0 where
  pub first : List LogRecord
  pub it : LogRecord
  pub rest : List LogRecord
  pub split : records ≡ first ++ it ∷ rest
  pub before : BeforesAgree [] first
  pub wrong : IsUnstood first it.lrsn it.body id
  pub lacking : BeforesAgree [] records → ⊥

-- each record tells the row that it met, and that those before it left, or leaves each slot to its key; or this is the page of the first that doesn't
abbrev pub AreTold : List LogRecord → Option PageId → Type 0
AreTold records None = BeforesAgree [] records
AreTold records (Some id) = IsFirstUnstood records id
