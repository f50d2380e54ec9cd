-- The first number of logs that breaks what the numbers of sound logs keep to: in a log they never fall, those that are drawn differ,
-- and a transaction stands in one log and ends as its records allow.
use Rattle.std.specs.Prelude.{ℕ, ◌+◌, ◌-◌, ◌==◌, nat_lt, Bool, true, false, not, ◌&&◌, ◌||◌, if◌then◌else◌, List, [], ◌∷◌, length, Option, None, Some, Result, Ok, Err, is_some}
use Rattle.std.specs.List.{AllByRecursion}
use Rattle.std.specs.FinMap as finite
use Rattle.ds_model.specs.declared.log.LogRecord.{LogRecord}
use Rattle.ds_model.specs.declared.log.Body.{Body}
use Rattle.ds_model.specs.declared.log.Body.TheVariants as body
use Rattle.ds_model.specs.RecordBytes.{width_of, record_bytes, IsAllowed}
use Rattle.log_record.specs.declared.log.Log.{Log}
use Rattle.log_record.specs.Changes.{is_drawn}
use Rattle.log_trans.specs.declared.course.Course.{Course}
use Rattle.log_trans.specs.declared.known.Known.{Known}
use Rattle.log_trans.specs.declared.damage.Damaged.{Damaged}
use Rattle.log_trans.specs.Courses.{is_next, course_of, with_record}

-- where the number, the transaction and, from the end, the undone number of a record begin
abbrev pub number_at : ℕ
number_at = 6

abbrev pub tran_at : LogRecord → ℕ
tran_at r = number_at + width_of r.version

abbrev pub undone_at : LogRecord → ℕ
undone_at r = length (record_bytes r) - (width_of r.version + 4)

-- ---- one record

abbrev pub unless : Bool → ℕ → Option ℕ
unless b at = if b then None else Some at

abbrev pub nothing_undone : Course → Bool
nothing_undone c = length c.undone == 0

-- a transaction that is rolled back changes no row more
-- a compensation undoes the last row change that isn't undone, and stands beside no Commit
-- there is one Commit at most, and none beside a compensation
-- an Ended follows the Commit or the last compensation
abbrev pub body_fault : Course → LogRecord → Body → Option ℕ
body_fault c r (body.RowChange change) = unless (nothing_undone c) (tran_at r)
body_fault c r (body.Compensation change undone) = if c.is_committed then Some (tran_at r) else unless (is_next undone c.undo) (undone_at r)
body_fault c r (body.System patches) = None
body_fault c r body.Commit = unless (not c.is_committed && nothing_undone c) (tran_at r)
body_fault c r body.Ended = unless (c.is_committed || ((length c.undo == 0) && not (nothing_undone c))) (tran_at r)
body_fault c r (body.Checkpoint offset) = None
body_fault c r body.RestartEnd = None

-- a transaction stands in the log of its first record
abbrev pub is_home : ℕ → Option ℕ → Bool
is_home member None = true
is_home member (Some home) = home == member

abbrev pub tran_fault : ℕ → Known → LogRecord → Option ℕ
tran_fault member known r =
    if r.tran == 0 then None
    else if is_home member (finite.get known.homes r.tran) then body_fault (course_of (finite.get known.courses r.tran)) r r.body
    else Some (tran_at r)

abbrev pub was_drawn : Known → LogRecord → Bool
was_drawn known r = is_drawn r.body && is_some (finite.get known.drawn r.lrsn)

-- the first number of the record that can't stand there, by the number of the record before it in the log and by what is known
abbrev pub record_fault : ℕ → Known → ℕ → LogRecord → Option ℕ
record_fault member known low r = if nat_lt r.lrsn low || was_drawn known r then Some number_at else tran_fault member known r

-- ---- what is known of the records before

abbrev pub nothing_known : Known
nothing_known = record { drawn = finite.empty; homes = finite.empty; courses = finite.empty }

-- what is known with one record more
abbrev pub known_with : ℕ → Known → LogRecord → Known
known_with member known r = record {
  drawn = if is_drawn r.body then finite.insert known.drawn r.lrsn member else known.drawn;
  homes = if r.tran == 0 then known.homes else finite.insert known.homes r.tran member;
  courses = with_record known.courses r;
}

-- ---- logs

abbrev pub judged : ℕ → Option ℕ → Result Known ℕ → Result Known ℕ
judged at None more = more
judged at (Some field) more = Err (at + field)

-- what is known behind these records of a log, which begin at this byte, or where the first number begins that can't stand there
abbrev pub damage_from : ℕ → Known → ℕ → ℕ → List LogRecord → Result Known ℕ
damage_from member known low at [] = Ok known
damage_from member known low at (r ∷ rs) =
    judged at (record_fault member known low r) (damage_from member (known_with member known r) r.lrsn (at + length (record_bytes r)) rs)

abbrev pub damage_in : Known → Log → Result Known ℕ
damage_in known log = damage_from log.member known 0 0 log.records

abbrev pub goes_on : (Known → Option Damaged) → ℕ → Result Known ℕ → Option Damaged
goes_on more member (Ok known) = more known
goes_on more member (Err at) = Some (record { member = member; at = at })

abbrev pub damage_among : Known → List Log → Option Damaged
damage_among known [] = None
damage_among known (log ∷ logs) = goes_on (λ k. damage_among k logs) log.member (damage_in known log)

-- by the order of the logs, and in each by the order of its records
abbrev pub log_damage : List Log → Option Damaged
log_damage logs = damage_among nothing_known logs

-- the records of all logs may stand in one
abbrev pub AreAllowed : List Log → Type 0
AreAllowed logs = AllByRecursion (λ (l : Log). AllByRecursion IsAllowed l.records) logs
