-- What the open transactions of logs ask for.
use Rattle.std.specs.Prelude.{ℕ, ◌-◌, ◌==◌, Bool, true, false, not, ◌&&◌, ◌||◌, if◌then◌else◌, List, [], ◌∷◌, ◌++◌, length, slice_get, Option, None, Some}
use Rattle.std.specs.Ordering.{nat_cmp}
use Rattle.std.specs.FinMap as finite
use Rattle.ds_model.specs.declared.log.LogRecord.{LogRecord}
use Rattle.ds_model.specs.declared.log.RowChange.{RowChange}
use Rattle.ds_model.specs.declared.log.Body.{Body}
use Rattle.ds_model.specs.declared.log.Body.TheVariants as body
use Rattle.ds_model.specs.RecordBytes.{is_written}
use Rattle.log_record.specs.declared.log.Log.{Log}
use Rattle.log_trans.specs.declared.opened.OpenTran.{OpenTran}
use Rattle.log_trans.specs.Courses.{open_trans}
use Rattle.restart_plan.specs.declared.opened.Closing.{Closing}
use Rattle.restart_plan.specs.declared.opened.Undo.{Undo}
use Rattle.restart_plan.specs.declared.opened.Opened.{Opened}

-- ---- the changes of a transaction

-- row changes by their numbers, which differ
abbrev pub Changes : Type 0
Changes = finite.FinMap nat_cmp Undo

abbrev pub undo : ℕ → ℕ → ℕ → Bool → RowChange → Undo
undo member tran lrsn is_last change = record { member = member; tran = tran; lrsn = lrsn; change = change; is_last = is_last }

-- what is undone is a row change
abbrev pub with_change : ℕ → ℕ → Bool → Changes → ℕ → Body → Changes
with_change member tran is_last changes lrsn (body.RowChange change) = finite.insert changes lrsn (undo member tran lrsn is_last change)
with_change member tran is_last changes lrsn (body.Compensation change undone) = changes
with_change member tran is_last changes lrsn (body.System patches) = changes
with_change member tran is_last changes lrsn body.Commit = changes
with_change member tran is_last changes lrsn body.Ended = changes
with_change member tran is_last changes lrsn (body.Checkpoint offset) = changes
with_change member tran is_last changes lrsn body.RestartEnd = changes

-- the first one is undone last
abbrev pub with_changes : ℕ → ℕ → Bool → Changes → List LogRecord → Changes
with_changes member tran is_last changes [] = changes
with_changes member tran is_last changes (r ∷ rs) = with_changes member tran false (with_change member tran is_last changes r.lrsn r.body) rs

-- ---- transactions

abbrev pub nothing_open : Opened
nothing_open = record { closings = []; undo = finite.empty; endings = [] }

abbrev pub closing : ℕ → ℕ → ℕ → Closing
closing member tran lrsn = record { member = member; tran = tran; lrsn = lrsn }

abbrev pub closed : Opened → Closing → Opened
closed o c = record { closings = o.closings ++ c ∷ []; undo = o.undo; endings = o.endings }

abbrev pub with_undo : Opened → Changes → Opened
with_undo o changes = record { closings = o.closings; undo = changes; endings = o.endings }

-- one of which nothing is to be undone is closed, with the last number of its log; none has the number 0
abbrev pub with_tran : ℕ → ℕ → Opened → OpenTran → Opened
with_tran member lrsn o t =
    if t.id == 0 then o
    else if length t.undo == 0 then closed o (closing member t.id lrsn)
    else with_undo o (with_changes member t.id true o.undo t.undo)

abbrev pub with_trans : ℕ → ℕ → Opened → List OpenTran → Opened
with_trans member lrsn o [] = o
with_trans member lrsn o (t ∷ ts) = with_trans member lrsn (with_tran member lrsn o t) ts

-- ---- logs

abbrev pub is_restart_end : Body → Bool
is_restart_end (body.RowChange change) = false
is_restart_end (body.Compensation change undone) = false
is_restart_end (body.System patches) = false
is_restart_end body.Commit = false
is_restart_end body.Ended = false
is_restart_end (body.Checkpoint offset) = false
is_restart_end body.RestartEnd = true

-- a RestartEnd of the version in which records are written
abbrev pub is_end : LogRecord → Bool
is_end r = is_written r.version && is_restart_end r.body

abbrev pub with_ending : Opened → ℕ → Opened
with_ending o member = record { closings = o.closings; undo = o.undo; endings = o.endings ++ member ∷ [] }

-- a log that ends with such a RestartEnd and has no open transaction gets no record; one that ends with a Checkpoint, since a restart was stopped behind it, gets both again
abbrev pub needs_end : LogRecord → List OpenTran → Bool
needs_end last trans = not (is_end last) || not (length trans == 0)

abbrev pub with_last : Opened → ℕ → List OpenTran → Option LogRecord → Opened
with_last o member trans None = o
with_last o member trans (Some last) = with_trans member last.lrsn (if needs_end last trans then with_ending o member else o) trans

-- an empty log asks for nothing
abbrev pub with_log : Opened → Log → Opened
with_log o log = with_last o log.member (open_trans log.records) (slice_get log.records (length log.records - 1))

abbrev pub with_logs : Opened → List Log → Opened
with_logs o [] = o
with_logs o (log ∷ logs) = with_logs (with_log o log) logs
