-- The log record at the front of bytes, with the first field that isn't allowed.
use Rattle.std.specs.Prelude.{◌≡◌, ◌≢◌, ℕ, ◌-◌, ◌≤◌, ◌==◌, nat_le, nat_lt, Bool, not, ◌&&◌, if◌then◌else◌, List, length, take, drop, slice_index, Result, Ok, Err}
use Rattle.byteorder.specs.Endian.{big_number}
use Rattle.ds_model.specs.declared.log.LogRecord.{LogRecord}
use Rattle.ds_model.specs.RecordBytes.{IsAllowed, record_bytes}
use Rattle.log_record.specs.declared.fault.RecordFault.{RecordFault}
use Rattle.log_record.specs.declared.fault.RecordFault.TheVariants as fault
use Rattle.log_record.specs.Fields.{◌>>=◌, kind_at, version_at, lrsn_at, tran_at, body_at}

-- the fields from the kind to the body, and the offset behind them
unfoldable pub fields_in : List ℕ → Result (LogRecord × ℕ) RecordFault
fields_in fields = do
  kind ← kind_at fields 4
  version ← version_at fields kind.1
  lrsn ← lrsn_at version.0 fields version.1
  tran ← tran_at version.0 kind.0 fields lrsn.1
  body ← body_at version.0 kind.0 fields tran.1
  Ok (record { version = version.0; lrsn = lrsn.0; tran = tran.0; body = body.0 }, body.1)

-- whether the body ends at this offset of a record of so many bytes, and the record's length stands there again
abbrev pub ends_at : List ℕ → ℕ → ℕ → Bool
ends_at bytes size at = at == size - 4 && big_number 4 (drop (size - 4) bytes) == size

-- the record of so many bytes
unfoldable pub whole_in : List ℕ → ℕ → Result (LogRecord × ℕ) RecordFault
whole_in bytes size = do
  found ← fields_in (take (size - 4) bytes)
  if ends_at bytes size found.1 then Ok (found.0, size) else Err (fault.Bad found.1)

-- the shortest record has no body, and is of version 1
abbrev pub is_size : ℕ → Bool
is_size n = nat_le 22 n && nat_le n 16384

-- the record at the front, and its length
unfoldable pub record_in : List ℕ → Result (LogRecord × ℕ) RecordFault
record_in bytes =
    if nat_lt (length bytes) 4 then Err fault.NotWhole
    else if not (is_size (big_number 4 bytes)) then Err (fault.Bad 0)
    else if nat_lt (length bytes) (big_number 4 bytes) then Err fault.NotWhole
    else whole_in bytes (big_number 4 bytes)

-- ---- what was read

-- this record stands at the front of the bytes, and has this length
pub record Found (bytes : List ℕ) (r : LogRecord) (size : ℕ) : Type 0 where
  pub long : 22 ≤ size
  pub within : size ≤ length bytes
  pub spelled : take size bytes ≡ record_bytes r
  pub allowed : IsAllowed r

-- a whole record with patches of pages stands at the front of the bytes
pub record HasPatches (bytes : List ℕ) : Type 0 where
  pub whole : big_number 4 bytes ≤ length bytes
  pub kind : slice_index bytes 4 ≡ 3

-- What a function that takes memory returned is what is read, unless there was too little memory.
abbrev pub Answers : {X : Type 0} → Result X RecordFault → Result X RecordFault → Type 0
Answers (Ok x) read = read ≡ Ok x
Answers (Err e) read = e ≢ fault.NoMemory → read ≡ Err e

-- What a function returned, seen by view, is what is read.
abbrev pub Gives : {X Y : Type 0} → (X → Y) → Result X RecordFault → Result Y RecordFault → Type 0
Gives view (Ok x) read = read ≡ Ok (view x)
Gives view (Err e) read = read ≡ Err e
