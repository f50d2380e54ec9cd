-- What is known of a log behind its first records, so that the seventh clause of a sound disk is asked while it is read.
use Rattle.std.specs.Prelude.{ℕ, ◌-◌, ◌==◌, nat_le, Bool, true, false, ◌&&◌, if◌then◌else◌, List, [], ◌∷◌, ◌++◌, length, take, slice_get, Option, None, Some}
use Rattle.std.specs.Ordering.{nat_cmp}
use Rattle.std.specs.FinMap as finite
use Rattle.ds_model.specs.declared.log.LogRecord.{LogRecord}
use Rattle.ds_model.specs.declared.log.Body.{Body}
use Rattle.ds_model.specs.declared.log.Body.TheVariants as body
use Rattle.sound_disk.specs.Checkpoints.{next_place, offset_or}
use Rattle.kept_checkpoints.specs.Offsets.{Places}
use Rattle.kept_checkpoints.specs.declared.scan.LogScan.{LogScan}

-- ---- offsets

-- a Checkpoint's offset isn't behind its own place
abbrev pub is_behind : ℕ → Body → Bool
is_behind at (body.Checkpoint offset) = nat_le offset at
is_behind at (body.RowChange change) = true
is_behind at (body.Compensation change undone) = true
is_behind at (body.System patches) = true
is_behind at body.Commit = true
is_behind at body.Ended = true
is_behind at body.RestartEnd = true

abbrev pub with_offset : Places → Body → Places
with_offset offsets (body.Checkpoint offset) = finite.insert offsets offset true
with_offset offsets (body.RowChange change) = offsets
with_offset offsets (body.Compensation change undone) = offsets
with_offset offsets (body.System patches) = offsets
with_offset offsets body.Commit = offsets
with_offset offsets body.Ended = offsets
with_offset offsets body.RestartEnd = offsets

-- ---- open row changes, by their transactions

abbrev pub Open : Type 0
Open = finite.FinMap nat_cmp (List ℕ)

abbrev pub numbers_of : Option (List ℕ) → List ℕ
numbers_of None = []
numbers_of (Some ns) = ns

abbrev pub is_number : ℕ → Option ℕ → Bool
is_number n None = false
is_number n (Some m) = m == n

-- the last of the numbers is this one
abbrev pub is_last : ℕ → List ℕ → Bool
is_last n ns = is_number n (slice_get ns (length ns - 1))

-- the last one is taken back, if it has this number
abbrev pub taken_back : ℕ → List ℕ → List ℕ
taken_back n ns = if is_last n ns then take (length ns - 1) ns else ns

abbrev pub with_numbers : Open → ℕ → List ℕ → Open
with_numbers changes tran [] = changes
with_numbers changes tran (n ∷ ns) = finite.insert changes tran (n ∷ ns)

-- after a record of the transaction
abbrev pub with_body : Open → ℕ → ℕ → Body → Open
with_body changes tran lrsn (body.RowChange change) = with_numbers (finite.remove changes tran) tran (numbers_of (finite.get changes tran) ++ lrsn ∷ [])
with_body changes tran lrsn (body.Compensation change undone) = with_numbers (finite.remove changes tran) tran (taken_back undone (numbers_of (finite.get changes tran)))
with_body changes tran lrsn (body.System patches) = changes
with_body changes tran lrsn body.Commit = finite.remove changes tran
with_body changes tran lrsn body.Ended = changes
with_body changes tran lrsn (body.Checkpoint offset) = changes
with_body changes tran lrsn body.RestartEnd = changes

-- ---- a log

abbrev pub nothing_scanned : LogScan
nothing_scanned = record { start = 0; fits = true; offsets = finite.empty; changes = finite.empty }

-- with a record more, which begins at this place
abbrev pub scanned : LogScan → ℕ → LogRecord → LogScan
scanned s at r = record {
  start = offset_or s.start r.body;
  fits = s.fits && is_behind at r.body;
  offsets = with_offset s.offsets r.body;
  changes = with_body s.changes r.tran r.lrsn r.body;
}

-- with these, of which the first begins there
abbrev pub scan_from : LogScan → ℕ → List LogRecord → LogScan
scan_from s at [] = s
scan_from s at (r ∷ rs) = scan_from (scanned s at r) (next_place at r) rs
