-- The seventh clause of a sound disk, checkpoints: what stands before the place from which a log is read on is in the pages of the disk, and no
-- transaction of it is open.
use Rattle.std.specs.Prelude.{◌≡◌, ℕ, ◌+◌, ◌==◌, nat_le, nat_lt, Bool, true, false, not, ◌&&◌, ◌||◌, if◌then◌else◌, List, [], ◌∷◌, ◌++◌, length}
use Rattle.std.specs.List.{list_any, list_all, AllByRecursion}
use Rattle.ds_model.specs.declared.log.LogRecord.{LogRecord}
use Rattle.ds_model.specs.declared.log.Body.{Body}
use Rattle.ds_model.specs.declared.log.Body.TheVariants as body
use Rattle.ds_model.specs.RecordBytes.{record_bytes}
use Rattle.page_format.specs.Fields.{lrsn_of}
use Rattle.page_format.specs.declared.patch.Patch.{Patch}
use Rattle.log_record.specs.declared.log.Log.{Log}
use Rattle.page_images.specs.Images.{Images}
use Rattle.page_redo.specs.Given.{changes_of}
use Rattle.sound_disk.specs.Settled.{has_ended}

-- ---- offsets

-- where a record of the log begins behind one that begins at this byte
abbrev pub next_place : ℕ → LogRecord → ℕ
next_place at r = at + length (record_bytes r)

-- a Checkpoint's offset is one of these places
abbrev pub offset_fits : List ℕ → Body → Bool
offset_fits places (body.Checkpoint offset) = list_any (λ at. at == offset) places
offset_fits places (body.RowChange change) = true
offset_fits places (body.Compensation change undone) = true
offset_fits places (body.System patches) = true
offset_fits places body.Commit = true
offset_fits places body.Ended = true
offset_fits places body.RestartEnd = true

-- the offset of each Checkpoint is the place of a record of its log, and not behind its own; records begin at these places before `at`
abbrev pub offsets_fit : List ℕ → ℕ → List LogRecord → Bool
offsets_fit places at [] = true
offsets_fit places at (r ∷ rs) = offset_fits (places ++ at ∷ []) r.body && offsets_fit (places ++ at ∷ []) (next_place at r) rs

-- ---- the part that is read on

abbrev pub offset_or : ℕ → Body → ℕ
offset_or start (body.Checkpoint offset) = offset
offset_or start (body.RowChange change) = start
offset_or start (body.Compensation change undone) = start
offset_or start (body.System patches) = start
offset_or start body.Commit = start
offset_or start body.Ended = start
offset_or start body.RestartEnd = start

-- the offset of the last Checkpoint, or `start` where there is none
abbrev pub start_from : ℕ → List LogRecord → ℕ
start_from start [] = start
start_from start (r ∷ rs) = start_from (offset_or start r.body) rs

-- the byte from which a log with these records is read on
abbrev pub start_of : List LogRecord → ℕ
start_of records = start_from 0 records

-- the records before this byte, the first of which begins at `at`
abbrev pub records_before : ℕ → ℕ → List LogRecord → List LogRecord
records_before upto at [] = []
records_before upto at (r ∷ rs) = if nat_lt at upto then r ∷ records_before upto (next_place at r) rs else []

-- ---- what stands before it

-- the pages that the record changes have its change: their numbers are no lower
abbrev pub is_in_pages : Images → LogRecord → Bool
is_in_pages at r = list_all (λ (p : Patch). nat_le r.lrsn (lrsn_of (at p.page))) (changes_of r.body)

abbrev pub changes_pages : LogRecord → Bool
changes_pages r = not (length (changes_of r.body) == 0)

-- the record needn't be read again, among the records of its log: it changes no page; or it is in its pages on disk, and none of its
-- transaction, if it has one, is open
abbrev pub is_done : Images → List LogRecord → LogRecord → Bool
is_done at records r = not (changes_pages r) || (is_in_pages at r && ((r.tran == 0) || has_ended records r.tran))

-- the pages of the disk are these
pub record IsCheckpointed (at : Images) (records : List LogRecord) : Type 0 where
  pub offsets : offsets_fit [] 0 records ≡ true
  pub before : list_all (is_done at records) (records_before (start_of records) 0 records) ≡ true

abbrev pub AreCheckpointed : Images → List Log → Type 0
AreCheckpointed at logs = AllByRecursion (λ (l : Log). IsCheckpointed at l.records) logs
