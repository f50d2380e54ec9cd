-- What is kept of a log while it is read: its bytes from the last Checkpoint on.
use Rattle.std.specs.Prelude.{ℕ, ◌+◌, ◌-◌, ◌==◌, nat_lt, nat_le, Bool, true, false, not, ◌&&◌, ◌||◌, if◌then◌else◌, List, [], ◌∷◌, ◌++◌, length, drop}
use Rattle.ds_model.specs.declared.log.LogRecord.{LogRecord}
use Rattle.ds_model.specs.declared.log.Body.{Body}
use Rattle.ds_model.specs.declared.log.Body.TheVariants as body
use Rattle.ds_model.specs.RecordBytes.{is_written, record_bytes}
use Rattle.log_head.specs.Whole.{whole_records}
use Rattle.log_reader.specs.declared.held.Mark.{Mark}

-- where the bytes begin in the log, and where they end; they; how many of them are whole records that were looked at; the number of the Checkpoint with which
-- they begin, 0 where they begin the log; whether nothing is left out; and whether one of the records that were looked at is of version 1
pub record HeldState : Type 0 where
  pub start : ℕ
  pub end : ℕ
  pub bytes : List ℕ
  pub passed : ℕ
  pub low : ℕ
  pub keeps_all : Bool
  pub has_old : Bool

abbrev pub nothing_held : Bool → HeldState
nothing_held keeps_all = record { start = 0; end = 0; bytes = []; passed = 0; low = 0; keeps_all = keeps_all; has_old = false }

-- nothing is kept yet of a log that is read from this byte on
abbrev pub held_from : ℕ → HeldState
held_from place = record { start = place; end = place; bytes = []; passed = 0; low = 0; keeps_all = false; has_old = false }

-- ---- one record

-- it is a Checkpoint that names this byte
abbrev pub names : ℕ → Body → Bool
names place (body.RowChange change) = false
names place (body.Compensation change undone) = false
names place (body.System patches) = false
names place body.Commit = false
names place body.Ended = false
names place (body.Checkpoint offset) = offset == place
names place body.RestartEnd = false

-- or another one
abbrev pub names_other : ℕ → Body → Bool
names_other place (body.RowChange change) = false
names_other place (body.Compensation change undone) = false
names_other place (body.System patches) = false
names_other place body.Commit = false
names_other place body.Ended = false
names_other place (body.Checkpoint offset) = not (offset == place)
names_other place body.RestartEnd = false

-- the log is read on from the place of the record, which begins there: a Checkpoint of the version in which records are written, which names its own place
abbrev pub begins_at : ℕ → LogRecord → Bool
begins_at place r = is_written r.version && names place r.body

-- the record belongs to a transaction whose number isn't above this one: behind a Checkpoint of this number, to one that began before it
abbrev pub is_earlier : ℕ → LogRecord → Bool
is_earlier low r = nat_lt 0 r.tran && nat_le r.tran low

-- of version 1
abbrev pub is_old : LogRecord → Bool
is_old r = not (is_written r.version)

-- ---- the records of bytes that begin at this byte of a log

-- so many of the bytes were looked at before, and they begin with a Checkpoint of this number; and whether a record of version 1 was among all that were
abbrev pub first_mark : ℕ → ℕ → Bool → Mark
first_mark passed low has_old = record { from = 0; to = passed; low = low; wants_all = false; has_old = has_old }

-- behind a Checkpoint at which reading begins
abbrev pub begun_at : Mark → LogRecord → Mark
begun_at m r = record { from = m.to; to = m.to + length (record_bytes r); low = r.lrsn; wants_all = m.wants_all; has_old = m.has_old }

-- behind any other record, which begins at this byte
abbrev pub gone_on : ℕ → Mark → LogRecord → Mark
gone_on place m r = record { from = m.from; to = m.to + length (record_bytes r); low = m.low; wants_all = m.wants_all || (names_other place r.body || is_earlier m.low r); has_old = m.has_old || is_old r }

-- behind one record more
abbrev pub marked_one : ℕ → Mark → LogRecord → Mark
marked_one start m r = if begins_at (start + m.to) r then begun_at m r else gone_on (start + m.to) m r

abbrev pub marked_all : ℕ → Mark → List LogRecord → Mark
marked_all start m [] = m
marked_all start m (r ∷ rs) = marked_all start (marked_one start m r) rs

-- ---- what is kept

-- where a Checkpoint names another byte than its own, or a transaction that began before it has a record behind it, all of the log is read anew
abbrev pub with_mark : HeldState → Mark → HeldState
with_mark h m = if m.wants_all then nothing_held true else record { start = h.start + m.from; end = h.end; bytes = drop m.from h.bytes; passed = m.to - m.from; low = m.low; keeps_all = h.keeps_all; has_old = m.has_old }

-- from the last Checkpoint on
unfoldable pub settled : HeldState → HeldState
settled h = if h.keeps_all || nat_lt (length h.bytes) h.passed then h else with_mark h (marked_all h.start (first_mark h.passed h.low h.has_old) (whole_records (drop h.passed h.bytes)))

abbrev pub grown : HeldState → List ℕ → HeldState
grown h more = settled (record { start = h.start; end = h.end + length more; bytes = h.bytes ++ more; passed = h.passed; low = h.low; keeps_all = h.keeps_all; has_old = h.has_old })
