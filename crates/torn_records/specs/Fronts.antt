-- Whether bytes are a front of a record.
use Rattle.std.specs.Prelude.{◌≡◌, ◌⊎◌, ℕ, ◌+◌, ◌<◌, Bool, true, false, List, length, take, slice_index, Result, Ok}
use Rattle.std.specs.Int.{w32, to_be_bytes}
use Rattle.ds_base.specs.declared.fault.NoMemory.{NoMemory}
use Rattle.ds_model.specs.declared.log.LogRecord.{LogRecord}
use Rattle.page_format.specs.declared.patch.Patch.{Patch}
use Rattle.ds_model.specs.declared.log.RowChange.{RowChange}
use Rattle.ds_model.specs.declared.log.Body.{Body}
use Rattle.ds_model.specs.declared.log.Body.TheVariants as body
use Rattle.ds_model.specs.declared.log.Version.{Version}
use Rattle.ds_model.specs.RecordBytes.{record_bytes, kind_of, is_of_tran, frame_of, version_byte, IsAllowed}
use Rattle.ds_model.specs.Logs.{IsTorn}
use Rattle.torn_records.specs.Mixes.{Fills}
use Rattle.torn_records.specs.Templates.{shape_of}

-- the bytes are a proper front of the record's
pub record IsFrontOf (bytes : List ℕ) (r : LogRecord) : Type 0 where
  pub count : ℕ
  pub short : count < length (record_bytes r)
  pub is : bytes ≡ take count (record_bytes r)

-- it was told rightly that the bytes are torn; and where that was denied, they are no front of such a record
pub record Tells (bytes : List ℕ) (Among : LogRecord → Type 0) (result : Result Bool NoMemory) : Type 0 where
  pub torn : result ≡ Ok true → IsTorn bytes
  pub none : result ≡ Ok false → (r : LogRecord) → IsAllowed r → Among r → IsFrontOf bytes r → ⊥

-- the record is of the version and the kind, and the text fills its body
pub record HasText (v : Version) (kind : ℕ) (has_tran : Bool) (text : List ℕ) (r : LogRecord) : Type 0 where
  pub version_is : r.version ≡ v
  pub kind_is : kind_of r.body ≡ kind
  pub tran_is : is_of_tran r.body ≡ has_tran
  pub fills : Fills v r.body text

-- ---- records that change rows

-- the record is a row change of the version whose states have these shapes
pub record IsRowChangeIn (v : Version) (before after : ℕ) (r : LogRecord) : Type 0 where
  pub version_is : r.version ≡ v
  pub change : RowChange
  pub is : r.body ≡ body.RowChange change
  pub before_is : shape_of change.before ≡ before
  pub after_is : shape_of change.after ≡ after

-- the same of a compensation
pub record IsCompensationIn (v : Version) (before after : ℕ) (r : LogRecord) : Type 0 where
  pub version_is : r.version ≡ v
  pub change : RowChange
  pub undone : ℕ
  pub is : r.body ≡ body.Compensation change undone
  pub before_is : shape_of change.before ≡ before
  pub after_is : shape_of change.after ≡ after

abbrev pub IsChangeIn : Version → ℕ → ℕ → LogRecord → Type 0
IsChangeIn v before after r = IsRowChangeIn v before after r ⊎ IsCompensationIn v before after r

abbrev pub HasStateBefore : Version → ℕ → LogRecord → Type 0
HasStateBefore v before r = (after : ℕ) × (after < 102) × IsChangeIn v before after r

abbrev pub ChangesRow : Version → LogRecord → Type 0
ChangesRow v r = (before : ℕ) × (before < 102) × HasStateBefore v before r

-- ---- records that change pages

-- the record is of the version, and has so many bytes and patches
pub record IsSystemOf (v : Version) (size count : ℕ) (r : LogRecord) : Type 0 where
  pub version_is : r.version ≡ v
  pub patches : List Patch
  pub is : r.body ≡ body.System patches
  pub count_is : length patches ≡ count
  pub size_is : length (record_bytes r) ≡ size

abbrev pub IsSystemIn : Version → ℕ → LogRecord → Type 0
IsSystemIn v size r = (count : ℕ) × (count < 13) × IsSystemOf v size count r

abbrev pub HasPatches : Version → LogRecord → Type 0
HasPatches v r = (size : ℕ) × (size < 16385) × IsSystemIn v size r

-- ---- the other records

-- the record is of the version, and has neither a row's change nor patches
abbrev pub IsPlain : Body → Type 0
IsPlain (body.RowChange c) = ⊥
IsPlain (body.Compensation c undone) = ⊥
IsPlain (body.System patches) = ⊥
IsPlain body.Commit = Unit {0}
IsPlain body.Ended = Unit {0}
IsPlain (body.Checkpoint offset) = Unit {0}
IsPlain body.RestartEnd = Unit {0}

abbrev pub IsPlainIn : Version → LogRecord → Type 0
IsPlainIn v r = (r.version ≡ v) × IsPlain r.body

abbrev pub IsIn : Version → LogRecord → Type 0
IsIn v r = r.version ≡ v

-- ---- what is seen of a record's length, its kind and its version

pub record MayBegin (v : Version) (kind count : ℕ) (bytes : List ℕ) : Type 0 where
  pub size : take 4 bytes ≡ take (length bytes) (to_be_bytes w32 (frame_of v + count))
  pub kind_seen : 4 < length bytes → slice_index bytes 4 ≡ kind
  pub version_seen : 5 < length bytes → slice_index bytes 5 ≡ version_byte v
