-- What a restart leaves open, as the member takes it over.
use Rattle.std.specs.Prelude.{◌≡◌, ◌⊎◌, ℕ, true, false, List, [], ◌∷◌, Option, Some, None}
use Rattle.std.specs.List.{flat_map}
use Rattle.ds_model.specs.declared.log.Body.{Body}
use Rattle.ds_model.specs.declared.log.Body.TheVariants as body
use Rattle.ds_model.specs.declared.log.LogRecord.{LogRecord}
use Rattle.ds_model.specs.declared.log.RowChange.{RowChange}
use Rattle.member_trans.specs.declared.fate.Change.{Change}
use Rattle.member_marks.specs.Rollbacks.{may_adopt, after_adopt, with_room_of}
use Rattle.member_resources.specs.Held.{Held, with_marks}
use Rattle.log_trans.specs.declared.opened.OpenTran.{OpenTran}

abbrev pub row_of : Body → Option RowChange
row_of (body.RowChange change) = Some change
row_of (body.Compensation change undone) = None
row_of (body.System patches) = None
row_of body.Commit = None
row_of body.Ended = None
row_of (body.Checkpoint offset) = None
row_of body.RestartEnd = None

abbrev pub rows_in : Option RowChange → List RowChange
rows_in None = []
rows_in (Some change) = change ∷ []

-- the row change of a record, if it is one
abbrev pub row_in : LogRecord → List RowChange
row_in r = rows_in (row_of r.body)

abbrev pub changes_in : LogRecord → Option RowChange → List Change
changes_in r None = []
changes_in r (Some change) = record { lrsn = r.lrsn; change = change } ∷ []

-- the same, with its number
abbrev pub change_in : LogRecord → List Change
change_in r = changes_in r (row_of r.body)

-- ---- the transactions

abbrev pub changes_left : OpenTran → List Change
changes_left t = flat_map change_in t.undo

abbrev pub rows_left : OpenTran → List RowChange
rows_left t = flat_map row_in t.undone

-- the transaction may be taken over, and is a rollback that waits for the restart of the member `by`
pub record Adopts (h : Held) (by : ℕ) (t : OpenTran) (k : Held) : Type 0 where
  pub may : may_adopt h.marks t.id (changes_left t) ≡ true
  pub holds : k ≡ with_marks h (with_room_of (after_adopt h.marks t.id by (changes_left t) (rows_left t)) k.marks)

-- all of them are, the last one first
abbrev pub AdoptsAll : Held → ℕ → List OpenTran → Held → Type 0
AdoptsAll h by [] k = k ≡ h
AdoptsAll h by (t ∷ ts) k = (mid : Held) × AdoptsAll h by ts mid × Adopts mid by t k

-- one of them may not be, once those behind it are
abbrev pub MayNotAdopt : Held → ℕ → List OpenTran → Type 0
MayNotAdopt h by [] = ⊥
MayNotAdopt h by (t ∷ ts) = MayNotAdopt h by ts ⊎ ((mid : Held) × AdoptsAll h by ts mid × (may_adopt mid.marks t.id (changes_left t) ≡ false))
