-- The first offset of a Checkpoint that names no byte at which a record of its log begins up to its own.
use Rattle.std.specs.Prelude.{ℕ, ◌+◌, ◌==◌, nat_lt, Bool, true, ◌&&◌, ◌||◌, if◌then◌else◌, List, [], ◌∷◌, length, Option, None, Some, is_some}
use Rattle.std.specs.Ordering.{nat_cmp}
use Rattle.std.specs.FinMap as finite
use Rattle.ds_model.specs.declared.log.LogRecord.{LogRecord}
use Rattle.ds_model.specs.declared.log.Version.{Version}
use Rattle.ds_model.specs.declared.log.Body.{Body}
use Rattle.ds_model.specs.declared.log.Body.TheVariants as body
use Rattle.ds_model.specs.RecordBytes.{width_of, record_bytes}
use Rattle.log_record.specs.declared.log.Log.{Log}
use Rattle.log_trans.specs.declared.damage.Damaged.{Damaged}
use Rattle.log_reader.specs.Begin.{begin_of}

-- where the offset begins, behind the record's number and its transaction
abbrev pub offset_field : Version → ℕ
offset_field version = 6 + width_of version + width_of version

-- places of a log as a set of numbers
abbrev pub Places : Type 0
Places = finite.FinMap nat_cmp Bool

abbrev pub with_place : Places → ℕ → Places
with_place places at = finite.insert places at true

-- it is no Checkpoint, or one that names one of these places
abbrev pub names_one_of : Places → Body → Bool
names_one_of places (body.Checkpoint offset) = is_some (finite.get places offset)
names_one_of places (body.RowChange change) = true
names_one_of places (body.Compensation change undone) = true
names_one_of places (body.System patches) = true
names_one_of places body.Commit = true
names_one_of places body.Ended = true
names_one_of places body.RestartEnd = true

-- where the first wrong one begins, of records that begin at this byte; others of the log begin at these places before
abbrev pub fault_from : Places → ℕ → List LogRecord → Option ℕ
fault_from places at [] = None
fault_from places at (r ∷ rs) = if names_one_of (with_place places at) r.body then fault_from (with_place places at) (at + length (record_bytes r)) rs else Some (at + offset_field r.version)

-- of the records that were read of a log
abbrev pub fault_in : Log → Option ℕ
fault_in log = fault_from finite.empty (begin_of log) log.records

abbrev pub or_later : Option Damaged → ℕ → Option ℕ → Option Damaged
or_later more member None = more
or_later more member (Some at) = Some (record { member = member; at = at })

-- by the order of the logs, and in each by the order of its records
abbrev pub offset_damage : List Log → Option Damaged
offset_damage [] = None
offset_damage (log ∷ logs) = or_later (offset_damage logs) log.member (fault_in log)

-- ---- where each Checkpoint names its own place

abbrev pub names_own : ℕ → Body → Bool
names_own place (body.Checkpoint offset) = offset == place
names_own place (body.RowChange change) = true
names_own place (body.Compensation change undone) = true
names_own place (body.System patches) = true
names_own place body.Commit = true
names_own place body.Ended = true
names_own place body.RestartEnd = true

abbrev pub all_own : ℕ → List LogRecord → Bool
all_own at [] = true
all_own at (r ∷ rs) = names_own at r.body && all_own (at + length (record_bytes r)) rs

-- ---- two places of logs

abbrev pub is_earlier : Damaged → Damaged → Bool
is_earlier one other = nat_lt one.member other.member || ((one.member == other.member) && nat_lt one.at other.at)

abbrev pub earlier : Option Damaged → Option Damaged → Option Damaged
earlier None other = other
earlier (Some one) None = Some one
earlier (Some one) (Some other) = if is_earlier other one then Some other else Some one
