-- The one spelling of a log record, by its version.
use Rattle.std.specs.Prelude.{◌≡◌, ◌≢◌, ℕ, ◌+◌, ◌*◌, ◌<◌, ◌≤◌, ◌^◌, Bool, true, false, List, [], ◌∷◌, ◌++◌, length, Option, Some, None}
use Rattle.std.specs.List.{flat_map, AllByRecursion}
use Rattle.std.specs.Int.{w16, w32, w64, to_be_bytes, bytes_high_first}
use Rattle.ds_base.specs.Ids.{lrsn_width, old_lrsn_width}
-- given out again: which numbers tables have, the patches of a change, and the bytes of a page
pub use Rattle.ds_base.specs.Ids.{IsTable}
pub use Rattle.page_format.specs.declared.patch.Patch.{Patch}
pub use Rattle.page_format.specs.Fields.{page_size}
use Rattle.ds_base.specs.Values.{IsValue}
use Rattle.ds_model.specs.declared.log.LogRecord.{LogRecord}
use Rattle.ds_model.specs.declared.log.RowChange.{RowChange}
use Rattle.ds_model.specs.declared.log.Body.{Body}
use Rattle.ds_model.specs.declared.log.Body.TheVariants as body
use Rattle.ds_model.specs.declared.log.Version.{Version}
use Rattle.ds_model.specs.declared.log.Version.TheVariants as version

-- the byte of the version
abbrev pub version_byte : Version → ℕ
version_byte version.One = 1
version_byte version.Two = 2

-- whether records are written in the version, or are read in it alone
abbrev pub is_written : Version → Bool
is_written version.One = false
is_written version.Two = true

-- how many bytes a number has in a record of the version
abbrev pub width_of : Version → ℕ
width_of version.One = old_lrsn_width
width_of version.Two = lrsn_width

abbrev pub lrsn_bytes : Version → ℕ → List ℕ
lrsn_bytes v n = bytes_high_first (width_of v) n

-- whether a row is there: 1 and no bytes, or 2, their count, and they
abbrev pub state_bytes : Option (List ℕ) → List ℕ
state_bytes None = 1 ∷ 0 ∷ []
state_bytes (Some value) = 2 ∷ length value ∷ value

abbrev pub row_bytes : RowChange → List ℕ
row_bytes c = c.table ∷ to_be_bytes w64 c.key ++ to_be_bytes w32 c.place.page ++ to_be_bytes w16 c.place.slot

abbrev pub change_bytes : RowChange → List ℕ
change_bytes c = row_bytes c ++ state_bytes c.before ++ state_bytes c.after

-- where the new bytes of a page begin, and how many they are, and they
abbrev pub patch_bytes : Patch → List ℕ
patch_bytes p = to_be_bytes w16 p.page.set ++ to_be_bytes w32 p.page.number ++ to_be_bytes w16 p.offset ++ to_be_bytes w16 (length p.bytes) ++ p.bytes

abbrev pub kind_of : Body → ℕ
kind_of (body.RowChange change) = 1
kind_of (body.Compensation change undone) = 2
kind_of (body.System patches) = 3
kind_of body.Commit = 4
kind_of body.Ended = 5
kind_of (body.Checkpoint offset) = 6
kind_of body.RestartEnd = 7

abbrev pub body_bytes : Version → Body → List ℕ
body_bytes v (body.RowChange change) = change_bytes change
body_bytes v (body.Compensation change undone) = change_bytes change ++ lrsn_bytes v undone
body_bytes v (body.System patches) = length patches ∷ flat_map patch_bytes patches
body_bytes v body.Commit = []
body_bytes v body.Ended = []
body_bytes v (body.Checkpoint offset) = to_be_bytes w64 offset
body_bytes v body.RestartEnd = []

-- how many bytes a record has without its body: 22 in version 1, 30 in version 2
abbrev pub frame_of : Version → ℕ
frame_of v = 10 + 2 * width_of v

abbrev pub length_in : Version → Body → ℕ
length_in v b = frame_of v + length (body_bytes v b)

-- how many bytes a record with the body has as it is written
abbrev pub length_of : Body → ℕ
length_of b = length_in version.Two b

-- the length, the kind, the version, the number, the transaction, the body, and the length again
unfoldable pub spelling : Version → ℕ → ℕ → Body → List ℕ
spelling v lrsn tran b = to_be_bytes w32 (length_in v b) ++ kind_of b ∷ version_byte v ∷ lrsn_bytes v lrsn ++ lrsn_bytes v tran ++ body_bytes v b ++ to_be_bytes w32 (length_in v b)

unfoldable pub record_bytes : LogRecord → List ℕ
record_bytes r = spelling r.version r.lrsn r.tran r.body

abbrev pub log_bytes : List LogRecord → List ℕ
log_bytes records = flat_map record_bytes records

-- ---- the records that have a spelling

abbrev pub StateIsAllowed : Option (List ℕ) → Type 0
StateIsAllowed None = Unit {0}
StateIsAllowed (Some value) = IsValue value

pub record ChangeIsAllowed (c : RowChange) : Type 0 where
  pub table_in : IsTable c.table
  pub key_in : c.key < 2 ^ 64
  pub page_some : c.place.page ≢ 0
  pub page_in : c.place.page < 2 ^ 32
  pub slot_in : c.place.slot < 31
  pub before_is : StateIsAllowed c.before
  pub after_is : StateIsAllowed c.after

-- the page sets of a group are numbered from 1 to this
abbrev pub page_sets : ℕ
page_sets = 128

-- a record changes so many parts of pages at most
abbrev pub patches_limit : ℕ
patches_limit = 12

-- a patch has at most the bytes of a page without its header
abbrev pub patch_limit : ℕ
patch_limit = 4064

-- no record is longer
abbrev pub record_limit : ℕ
record_limit = 16384

pub record PatchIsAllowed (p : Patch) : Type 0 where
  pub set_from : 1 ≤ p.page.set
  pub set_to : p.page.set ≤ page_sets
  pub page_in : p.page.number < 2 ^ 32
  pub some : 1 ≤ length p.bytes
  pub few : length p.bytes ≤ patch_limit
  pub within : p.offset + length p.bytes ≤ page_size

pub record ArePatches (v : Version) (ps : List Patch) : Type 0 where
  pub some : 1 ≤ length ps
  pub few : length ps ≤ patches_limit
  pub each : AllByRecursion PatchIsAllowed ps
  pub short : length_in v (body.System ps) ≤ record_limit

-- those of a record as it is written
abbrev pub PatchesAreAllowed : List Patch → Type 0
PatchesAreAllowed ps = ArePatches version.Two ps

-- the number of a record of the version
abbrev pub IsNumber : Version → ℕ → Type 0
IsNumber v n = n < 256 ^ width_of v

abbrev pub BodyIsAllowed : Version → Body → Type 0
BodyIsAllowed v (body.RowChange c) = ChangeIsAllowed c
BodyIsAllowed v (body.Compensation c undone) = ChangeIsAllowed c × IsNumber v undone
BodyIsAllowed v (body.System ps) = ArePatches v ps
BodyIsAllowed v body.Commit = Unit {0}
BodyIsAllowed v body.Ended = Unit {0}
BodyIsAllowed v (body.Checkpoint offset) = offset < 2 ^ 64
BodyIsAllowed v body.RestartEnd = Unit {0}

-- whether such a record belongs to a transaction
abbrev pub is_of_tran : Body → Bool
is_of_tran (body.RowChange c) = true
is_of_tran (body.Compensation c undone) = true
is_of_tran (body.System ps) = false
is_of_tran body.Commit = true
is_of_tran body.Ended = true
is_of_tran (body.Checkpoint offset) = false
is_of_tran body.RestartEnd = false

-- the number of the transaction is 0 exactly where the record belongs to none
abbrev pub TranFits : Bool → ℕ → Type 0
TranFits true tran = tran ≢ 0
TranFits false tran = tran ≡ 0

pub record IsAllowed (r : LogRecord) : Type 0 where
  pub lrsn_in : IsNumber r.version r.lrsn
  pub tran_fits : TranFits (is_of_tran r.body) r.tran
  pub tran_in : IsNumber r.version r.tran
  pub body_is : BodyIsAllowed r.version r.body

-- what the types of a record's fields leave open, where it is written: its version, whether it has a transaction, and that
-- its places are those of pages
abbrev pub ChangeFits : RowChange → Type 0
ChangeFits c = (c.place.page ≢ 0) × (c.place.slot < 31)

abbrev pub BodyFits : Version → Body → Type 0
BodyFits v (body.RowChange c) = ChangeFits c
BodyFits v (body.Compensation c undone) = ChangeFits c
BodyFits v (body.System ps) = ArePatches v ps
BodyFits v body.Commit = Unit {0}
BodyFits v body.Ended = Unit {0}
BodyFits v (body.Checkpoint offset) = Unit {0}
BodyFits v body.RestartEnd = Unit {0}

pub record Fits (r : LogRecord) : Type 0 where
  pub version_is : r.version ≡ version.Two
  pub tran_fits : TranFits (is_of_tran r.body) r.tran
  pub body_fits : BodyFits r.version r.body
