-- The reading of a report, line by line.
use Rattle.std.specs.Prelude.{◌≡◌, ℕ, ◌+◌, ◌-◌, ◌^◌, ◌==◌, Bool, true, false, ◌&&◌, if◌then◌else◌, nat_lt, min, List, [], ◌∷◌, ◌++◌, length, Option, Some, None, Result, Ok, Err}
use Rattle.std.specs.List.{slice_split}
use Rattle.ds_base.specs.declared.row.Row.{Row}
use Rattle.ds_model.specs.declared.report.ToldRead.{ToldRead}
use Rattle.ds_model.specs.declared.report.ToldRead.TheVariants as read
use Rattle.ds_model.specs.declared.report.Told.{Told}
use Rattle.ds_model.specs.declared.report.Told.TheVariants as told
use Rattle.ds_model.specs.declared.report.ReportEntry.{ReportEntry}
use Rattle.ds_model.specs.declared.report.CauseLine.{CauseLine}
use Rattle.ds_model.specs.declared.report.EventLine.{EventLine}
use Rattle.ds_model.specs.declared.report.Report.{Report}
use Rattle.report_line.specs.declared.line.ReportLine.{ReportLine}
use Rattle.report_line.specs.declared.line.ReportLine.TheVariants as lines
use Rattle.report_line.specs.Reading.{line_in}
use Rattle.report_text.specs.declared.draft.Stage.{Stage}
use Rattle.report_text.specs.declared.draft.Stage.TheVariants as stage
use Rattle.report_text.specs.declared.draft.Draft.{Draft}
use Rattle.report_text.specs.declared.error.ReportError.{ReportError}
use Rattle.report_text.specs.declared.error.ReportError.TheVariants as errors
use Rattle.report_text.specs.Grammar.{is_before}

-- ---- what may come at a stage

abbrev pub takes_committed : Stage → Bool
takes_committed stage.Committed = true
takes_committed stage.Reads = true
takes_committed _ = false

abbrev pub takes_others : Stage → Bool
takes_others stage.Others = true
takes_others s = takes_committed s

abbrev pub takes_causes : Stage → Bool
takes_causes stage.Causes = true
takes_causes s = takes_others s

-- an event, or the count of the rows
abbrev pub takes_events : Stage → Bool
takes_events stage.Events = true
takes_events s = takes_causes s

-- ---- the report with one part more

abbrev pub draft_at : Stage → Report → Draft
draft_at s r = record { stage = s; report = r }

abbrev pub with_entry : Report → ReportEntry → Report
with_entry r e = record r { entries = r.entries ++ e ∷ [] }

abbrev pub told_with : Told → ToldRead → Told
told_with (told.Committed answered reads) x = told.Committed answered (reads ++ x ∷ [])
told_with (told.Refused refusal) x = told.Refused refusal
told_with told.Stopped x = told.Stopped

-- one read more in the last entry
abbrev pub last_with : List ReportEntry → ToldRead → List ReportEntry
last_with [] x = []
last_with (e ∷ []) x = record e { told = told_with e.told x } ∷ []
last_with (e ∷ next ∷ es) x = e ∷ last_with (next ∷ es) x

abbrev pub with_read : Report → ToldRead → Report
with_read r x = record r { entries = last_with r.entries x }

abbrev pub with_cause : Report → CauseLine → Report
with_cause r c = record r { trace = record { causes = r.trace.causes ++ c ∷ []; events = r.trace.events } }

abbrev pub with_event : Report → EventLine → Report
with_event r e = record r { trace = record { causes = r.trace.causes; events = r.trace.events ++ e ∷ [] } }

abbrev pub with_row : Report → Row → Report
with_row r row = record r { rows = r.rows ++ row ∷ [] }

-- ---- one line

-- the row may stand behind these
abbrev pub may_follow : List Row → Row → Bool
may_follow [] row = true
may_follow (last ∷ []) row = is_before last row
may_follow (first ∷ next ∷ rows) row = may_follow (next ∷ rows) row

abbrev pub is_start : Stage → Bool
is_start stage.Start = true
is_start _ = false

abbrev pub opened : Draft → Option Draft
opened d = if is_start d.stage then Some (draft_at stage.Committed d.report) else None

-- a scan with these rows so far
abbrev pub scanning : Report → ℕ → ℕ → ℕ → ℕ → List Row → Draft
scanning r table low high count rows =
    if length rows == count then draft_at stage.Reads (with_read r (read.Scan table low high rows))
    else draft_at (stage.Scan table low high count rows) r

abbrev pub committed : Draft → List ℕ → ℕ → Bool → Option Draft
committed d name member answered =
    if takes_committed d.stage
    then Some (draft_at (if answered then stage.Reads else stage.Committed) (with_entry d.report (record { name = name; member = member; told = told.Committed answered [] })))
    else None

-- an entry that isn't committed
abbrev pub ended : Draft → List ℕ → ℕ → Told → Option Draft
ended d name member fate =
    if takes_others d.stage then Some (draft_at stage.Others (with_entry d.report (record { name = name; member = member; told = fate }))) else None

abbrev pub scanned : Report → ℕ → ℕ → ℕ → ℕ → List Row → Row → Option Draft
scanned r table low high count rows row =
    if (row.table == table) && may_follow rows row then Some (scanning r table low high count (rows ++ row ∷ [])) else None

-- a read of the last entry, or a row of its scan
abbrev pub read_at : Report → Stage → ℕ → ℕ → Option (List ℕ) → Option Draft
read_at r stage.Reads table key value = Some (draft_at stage.Reads (with_read r (read.Get table key value)))
read_at r (stage.Scan of low high count rows) table key (Some value) = scanned r of low high count rows (record { table = table; key = key; value = value })
read_at r _ table key value = None

abbrev pub scan_at : Report → Stage → ℕ → ℕ → ℕ → ℕ → Option Draft
scan_at r stage.Reads table low high count = Some (scanning r table low high count [])
scan_at r _ table low high count = None

abbrev pub caused : Draft → CauseLine → Option Draft
caused d c = if takes_causes d.stage then Some (draft_at stage.Causes (with_cause d.report c)) else None

abbrev pub happened : Draft → EventLine → Option Draft
happened d e =
    if takes_events d.stage && (e.place == length d.report.trace.events + 1)
    then Some (draft_at stage.Events (with_event d.report e)) else None

abbrev pub counted : Draft → ℕ → Option Draft
counted d count = if takes_events d.stage then Some (draft_at (stage.Rows count) d.report) else None

abbrev pub row_at : Report → Stage → Row → Option Draft
row_at r (stage.Rows count) row =
    if nat_lt (length r.rows) count && may_follow r.rows row then Some (draft_at (stage.Rows count) (with_row r row)) else None
row_at r _ row = None

abbrev pub end_at : Report → Stage → ℕ → Option Draft
end_at r (stage.Rows count) status = if length r.rows == count then Some (draft_at stage.Done (record r { status = status })) else None
end_at r _ status = None

unfoldable pub step : Draft → ReportLine → Option Draft
step d lines.Opening = opened d
step d (lines.Committed name member answered) = committed d name member answered
step d (lines.Refused name member refusal) = ended d name member (told.Refused refusal)
step d (lines.Stopped name member) = ended d name member told.Stopped
step d (lines.Read table key value) = read_at d.report d.stage table key value
step d (lines.Scan table low high count) = scan_at d.report d.stage table low high count
step d (lines.Cause c) = caused d c
step d (lines.Event e) = happened d e
step d (lines.Rows count) = counted d count
step d (lines.Row row) = row_at d.report d.stage row
step d (lines.End status) = end_at d.report d.stage status

-- ---- all lines

abbrev pub step_if : Draft → Option ReportLine → Option Draft
step_if d None = None
step_if d (Some l) = step d l

abbrev pub step_text : Draft → List ℕ → Option Draft
step_text d text = step_if d (line_in text)

abbrev pub is_done : Stage → Bool
is_done stage.Done = true
is_done _ = false

-- lines are numbered from 1, and all past the greatest number of 32 bits by that one
abbrev pub next_number : ℕ → ℕ
next_number n = min (n + 1) (2 ^ 32 - 1)

abbrev pub report_then : ℕ → Option Draft → (Draft → Result Report ℕ) → Result Report ℕ
report_then n None go = Err n
report_then n (Some d) go = go d

-- the end of the text, with what stands behind its last line feed
abbrev pub finished : ℕ → Draft → List ℕ → Result Report ℕ
finished n d last = if (length last == 0) && is_done d.stage then Ok d.report else Err n

-- the report, or the number of the first line that may not stand where it does
abbrev pub report_from : ℕ → Draft → List (List ℕ) → Result Report ℕ
report_from n d [] = Err n
report_from n d (last ∷ []) = finished n d last
report_from n d (text ∷ next ∷ texts) = report_then n (step_text d text) (λ later. report_from (next_number n) later (next ∷ texts))

abbrev pub empty_report : Report
empty_report = record { entries = []; trace = record { causes = []; events = [] }; rows = []; status = 0 }

abbrev pub start : Draft
start = draft_at stage.Start empty_report

-- the lines, and what stands behind the last line feed
abbrev pub lines_in : List ℕ → List (List ℕ)
lines_in bytes = slice_split (λ (b : ℕ). b == 10) bytes

unfoldable pub report_of : List ℕ → Result Report ℕ
report_of bytes = report_from 1 start (lines_in bytes)

-- what a reader may answer where this is the reading
abbrev pub Gives : Result Report ReportError → Result Report ℕ → Type 0
Gives (Ok r) reading = reading ≡ Ok r
Gives (Err (errors.Bad line)) reading = reading ≡ Err line
Gives (Err errors.NoMemory) reading = Unit {0}
