-- The fields of a log record: how many bytes each has, and which of its values are allowed.
-- A field is read at an offset of the record without its last 4 bytes, and answers the offset behind it.
use Rattle.std.specs.Prelude.{ℕ, zero, suc, ◌+◌, ◌==◌, nat_le, nat_lt, Bool, true, false, not, ◌&&◌, ◌||◌, if◌then◌else◌, List, [], ◌∷◌, length, take, drop, Option, Some, None, Result, Ok, Err}
use Rattle.std.specs.List.{list_all}
use Rattle.byteorder.specs.Endian.{big_number}
use Rattle.ds_base.specs.declared.names.Place.{Place}
use Rattle.ds_base.specs.declared.names.PageId.{PageId}
use Rattle.ds_model.specs.RecordBytes.{Patch, page_size, width_of, page_sets, patches_limit, patch_limit}
use Rattle.ds_model.specs.declared.log.RowChange.{RowChange}
use Rattle.ds_model.specs.declared.log.Body.{Body}
use Rattle.ds_model.specs.declared.log.Body.TheVariants as body
use Rattle.ds_model.specs.declared.log.Version.{Version}
use Rattle.ds_model.specs.declared.log.Version.TheVariants as version
use Rattle.log_record.specs.declared.fault.RecordFault.{RecordFault}
use Rattle.log_record.specs.declared.fault.RecordFault.TheVariants as fault
use Rattle.log_record.specs.declared.kind.Kind.{Kind}
use Rattle.log_record.specs.declared.kind.Kind.TheVariants as kind

-- ---- one field

-- one step, and the next where it gave a value
infixl 10 ◌>>=◌
abbrev pub ◌>>=◌ : {A B : Type 0} → Result A RecordFault → (A → Result B RecordFault) → Result B RecordFault
(Ok x) >>= f = f x
(Err e) >>= f = Err e

-- so many bytes from this offset on
abbrev pub bytes_at : ℕ → List ℕ → ℕ → Result (List ℕ) RecordFault
bytes_at width fields at = if nat_lt (length fields) (at + width) then Err (fault.Bad at) else Ok (take width (drop at fields))

-- the value, where it is allowed
abbrev pub allowed_at : {X : Type 0} → ℕ → ℕ → Option X → Result (X × ℕ) RecordFault
allowed_at at next None = Err (fault.Bad at)
allowed_at at next (Some x) = Ok (x, next)

-- the field of so many bytes at this offset. What they mean is None where they are not allowed.
unfoldable pub field_at : {X : Type 0} → ℕ → (List ℕ → Option X) → List ℕ → ℕ → Result (X × ℕ) RecordFault
field_at width meaning fields at = bytes_at width fields at >>= λ bytes. allowed_at at (at + width) (meaning bytes)

abbrev pub only_if : {X : Type 0} → Bool → X → Option X
only_if true x = Some x
only_if false x = None

-- the number of so many bytes, which must pass the test
abbrev pub number_at : ℕ → (ℕ → Bool) → List ℕ → ℕ → Result (ℕ × ℕ) RecordFault
number_at width allowed = field_at width (λ bytes. only_if (allowed (big_number width bytes)) (big_number width bytes))

-- ---- the fields of each record

abbrev pub kind_of_number : ℕ → Option Kind
kind_of_number n =
    if n == 1 then Some kind.RowChange
    else if n == 2 then Some kind.Compensation
    else if n == 3 then Some kind.System
    else if n == 4 then Some kind.Commit
    else if n == 5 then Some kind.Ended
    else if n == 6 then Some kind.Checkpoint
    else if n == 7 then Some kind.RestartEnd
    else None

abbrev pub kind_at : List ℕ → ℕ → Result (Kind × ℕ) RecordFault
kind_at = field_at 1 (λ bytes. kind_of_number (big_number 1 bytes))

abbrev pub version_of_number : ℕ → Option Version
version_of_number n =
    if n == 1 then Some version.One
    else if n == 2 then Some version.Two
    else None

abbrev pub version_at : List ℕ → ℕ → Result (Version × ℕ) RecordFault
version_at = field_at 1 (λ bytes. version_of_number (big_number 1 bytes))

abbrev pub lrsn_at : Version → List ℕ → ℕ → Result (ℕ × ℕ) RecordFault
lrsn_at v = number_at (width_of v) (λ _. true)

-- whether a record of the kind belongs to a transaction
abbrev pub has_tran : Kind → Bool
has_tran kind.RowChange = true
has_tran kind.Compensation = true
has_tran kind.System = false
has_tran kind.Commit = true
has_tran kind.Ended = true
has_tran kind.Checkpoint = false
has_tran kind.RestartEnd = false

-- the transaction's first number: 0 where there is no transaction, and only there
abbrev pub tran_at : Version → Kind → List ℕ → ℕ → Result (ℕ × ℕ) RecordFault
tran_at v k = number_at (width_of v) (λ n. if has_tran k then not (n == 0) else n == 0)

-- an offset of a log
abbrev pub offset_at : List ℕ → ℕ → Result (ℕ × ℕ) RecordFault
offset_at = number_at 8 (λ _. true)

-- ---- the fields of a changed row

abbrev pub table_at : List ℕ → ℕ → Result (ℕ × ℕ) RecordFault
table_at = number_at 1 (λ n. nat_le 1 n && nat_le n 64)

abbrev pub key_at : List ℕ → ℕ → Result (ℕ × ℕ) RecordFault
key_at = number_at 8 (λ _. true)

abbrev pub page_at : List ℕ → ℕ → Result (ℕ × ℕ) RecordFault
page_at = number_at 4 (λ n. not (n == 0))

abbrev pub slot_at : List ℕ → ℕ → Result (ℕ × ℕ) RecordFault
slot_at = number_at 2 (λ n. nat_lt n 31)

unfoldable pub place_at : List ℕ → ℕ → Result (Place × ℕ) RecordFault
place_at fields at = do
  page ← page_at fields at
  slot ← slot_at fields page.1
  Ok (record { page = page.0; slot = slot.0 }, slot.1)

-- ---- whether a row is there, and its value

-- 1 where there is no row, 2 where there is one
abbrev pub presence_at : List ℕ → ℕ → Result (ℕ × ℕ) RecordFault
presence_at = number_at 1 (λ n. n == 1 || n == 2)

-- how many bytes the value has
abbrev pub count_at : ℕ → List ℕ → ℕ → Result (ℕ × ℕ) RecordFault
count_at most = number_at 1 (λ n. nat_le n most)

abbrev pub is_value_byte : ℕ → Bool
is_value_byte b = nat_le 0x21 b && nat_le b 0x7e

abbrev pub is_value : List ℕ → Bool
is_value bytes = nat_le (length bytes) 100 && list_all is_value_byte bytes

abbrev pub value_at : ℕ → List ℕ → ℕ → Result (List ℕ × ℕ) RecordFault
value_at count = field_at count (λ bytes. only_if (is_value bytes) bytes)

unfoldable pub absent_at : List ℕ → ℕ → Result (Option (List ℕ) × ℕ) RecordFault
absent_at fields at = do
  count ← count_at 0 fields at
  Ok (None, count.1)

unfoldable pub present_at : List ℕ → ℕ → Result (Option (List ℕ) × ℕ) RecordFault
present_at fields at = do
  count ← count_at 100 fields at
  value ← value_at count.0 fields count.1
  Ok (Some value.0, value.1)

unfoldable pub state_at : List ℕ → ℕ → Result (Option (List ℕ) × ℕ) RecordFault
state_at fields at = do
  presence ← presence_at fields at
  if presence.0 == 1 then absent_at fields presence.1 else present_at fields presence.1

unfoldable pub change_at : List ℕ → ℕ → Result (RowChange × ℕ) RecordFault
change_at fields at = do
  table ← table_at fields at
  key ← key_at fields table.1
  place ← place_at fields key.1
  before ← state_at fields place.1
  after ← state_at fields before.1
  Ok (record { table = table.0; key = key.0; place = place.0; before = before.0; after = after.0 }, after.1)

-- ---- the patches of pages

abbrev pub set_at : List ℕ → ℕ → Result (ℕ × ℕ) RecordFault
set_at = number_at 2 (λ n. nat_le 1 n && nat_le n page_sets)

-- the number of a page
abbrev pub number_in_set_at : List ℕ → ℕ → Result (ℕ × ℕ) RecordFault
number_in_set_at = number_at 4 (λ _. true)

-- where the bytes begin in the page
abbrev pub start_at : List ℕ → ℕ → Result (ℕ × ℕ) RecordFault
start_at = number_at 2 (λ _. true)

-- how many bytes the patch has, which stand from this offset of the page on
abbrev pub size_at : ℕ → List ℕ → ℕ → Result (ℕ × ℕ) RecordFault
size_at start = number_at 2 (λ n. nat_le 1 n && nat_le n patch_limit && nat_le (start + n) page_size)

abbrev pub content_at : ℕ → List ℕ → ℕ → Result (List ℕ × ℕ) RecordFault
content_at size = field_at size (λ bytes. Some bytes)

unfoldable pub page_id_at : List ℕ → ℕ → Result (PageId × ℕ) RecordFault
page_id_at fields at = do
  set ← set_at fields at
  number ← number_in_set_at fields set.1
  Ok (record { set = set.0; number = number.0 }, number.1)

unfoldable pub patch_at : List ℕ → ℕ → Result (Patch × ℕ) RecordFault
patch_at fields at = do
  page ← page_id_at fields at
  start ← start_at fields page.1
  size ← size_at start.0 fields start.1
  content ← content_at size.0 fields size.1
  Ok (record { page = page.0; offset = start.0; bytes = content.0 }, content.1)

-- so many patches
unfoldable pub patches_from : ℕ → List ℕ → ℕ → Result (List Patch × ℕ) RecordFault
patches_from zero fields at = Ok ([], at)
patches_from (suc n) fields at = do
  patch ← patch_at fields at
  more ← patches_from n fields patch.1
  Ok (patch.0 ∷ more.0, more.1)

abbrev pub patch_count_at : List ℕ → ℕ → Result (ℕ × ℕ) RecordFault
patch_count_at = number_at 1 (λ n. nat_le 1 n && nat_le n patches_limit)

unfoldable pub patches_at : List ℕ → ℕ → Result (List Patch × ℕ) RecordFault
patches_at fields at = do
  count ← patch_count_at fields at
  patches_from count.0 fields count.1

-- ---- the body of each kind

unfoldable pub compensation_at : Version → List ℕ → ℕ → Result (Body × ℕ) RecordFault
compensation_at v fields at = do
  change ← change_at fields at
  undone ← lrsn_at v fields change.1
  Ok (body.Compensation change.0 undone.0, undone.1)

unfoldable pub body_at : Version → Kind → List ℕ → ℕ → Result (Body × ℕ) RecordFault
body_at v kind.RowChange fields at = do
  change ← change_at fields at
  Ok (body.RowChange change.0, change.1)
body_at v kind.Compensation fields at = compensation_at v fields at
body_at v kind.System fields at = do
  patches ← patches_at fields at
  Ok (body.System patches.0, patches.1)
body_at v kind.Commit fields at = Ok (body.Commit, at)
body_at v kind.Ended fields at = Ok (body.Ended, at)
body_at v kind.Checkpoint fields at = do
  offset ← offset_at fields at
  Ok (body.Checkpoint offset.0, offset.1)
body_at v kind.RestartEnd fields at = Ok (body.RestartEnd, at)
