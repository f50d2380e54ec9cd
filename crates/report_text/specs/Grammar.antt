-- The lines of a report, and what makes it one.
use Rattle.std.specs.Prelude.{ℕ, ◌+◌, ◌==◌, Bool, true, false, not, ◌&&◌, ◌||◌, if◌then◌else◌, nat_lt, List, [], ◌∷◌, ◌++◌, length, map, Some}
use Rattle.std.specs.List.{flat_map, list_all}
use Rattle.ds_base.specs.declared.row.Row.{Row}
use Rattle.ds_model.specs.declared.report.ToldRead.{ToldRead}
use Rattle.ds_model.specs.declared.report.ToldRead.TheVariants as read
use Rattle.ds_model.specs.declared.report.Told.{Told}
use Rattle.ds_model.specs.declared.report.Told.TheVariants as told
use Rattle.ds_model.specs.declared.report.ReportEntry.{ReportEntry}
use Rattle.ds_model.specs.declared.report.EventLine.{EventLine}
use Rattle.ds_model.specs.declared.report.Report.{Report}
use Rattle.report_line.specs.declared.line.ReportLine.{ReportLine}
use Rattle.report_line.specs.declared.line.ReportLine.TheVariants as lines
use Rattle.report_line.specs.Lines.{is_line}

-- ---- the lines of a report

abbrev pub scanned_line : Row → ReportLine
scanned_line r = lines.Read r.table r.key (Some r.value)

abbrev pub read_lines : ToldRead → List ReportLine
read_lines (read.Get table key value) = lines.Read table key value ∷ []
read_lines (read.Scan table low high rows) = lines.Scan table low high (length rows) ∷ map scanned_line rows

abbrev pub told_lines : List ℕ → ℕ → Told → List ReportLine
told_lines name member (told.Committed answered reads) = lines.Committed name member answered ∷ flat_map read_lines reads
told_lines name member (told.Refused refusal) = lines.Refused name member refusal ∷ []
told_lines name member told.Stopped = lines.Stopped name member ∷ []

abbrev pub entry_lines : ReportEntry → List ReportLine
entry_lines e = told_lines e.name e.member e.told

-- those before the rows
abbrev pub head_lines : Report → List ReportLine
head_lines r = lines.Opening ∷ (flat_map entry_lines r.entries ++ (map lines.Cause r.trace.causes ++ map lines.Event r.trace.events))

abbrev pub lines_of : Report → List ReportLine
lines_of r = head_lines r ++ (lines.Rows (length r.rows) ∷ (map lines.Row r.rows ++ lines.End r.status ∷ []))

-- ---- rows that rise by table and key

abbrev pub is_before : Row → Row → Bool
is_before a b = nat_lt a.table b.table || ((a.table == b.table) && nat_lt a.key b.key)

abbrev pub rises_from : Row → List Row → Bool
rises_from r [] = true
rises_from r (next ∷ rows) = is_before r next && rises_from next rows

abbrev pub is_rising : List Row → Bool
is_rising [] = true
is_rising (r ∷ rows) = rises_from r rows

-- ---- reports

-- a scan's rows are of its table, and rise
abbrev pub is_whole_read : ToldRead → Bool
is_whole_read (read.Get table key value) = true
is_whole_read (read.Scan table low high rows) = list_all (λ r. r.table == table) rows && is_rising rows

abbrev pub is_whole : Told → Bool
is_whole (told.Committed true reads) = list_all is_whole_read reads
is_whole (told.Committed false reads) = length reads == 0
is_whole (told.Refused refusal) = true
is_whole told.Stopped = true

abbrev pub is_committed : Told → Bool
is_committed (told.Committed answered reads) = true
is_committed (told.Refused refusal) = false
is_committed told.Stopped = false

-- the committed ones stand before all others
abbrev pub committed_first : List ReportEntry → Bool
committed_first [] = true
committed_first (e ∷ es) = if is_committed e.told then committed_first es else list_all (λ other. not (is_committed other.told)) es

-- the places of events follow one another
abbrev pub are_counted : ℕ → List EventLine → Bool
are_counted from [] = true
are_counted from (e ∷ es) = (e.place == from) && are_counted (from + 1) es

-- each line may stand in a report by itself, and they stand in their order
abbrev pub is_report : Report → Bool
is_report r = list_all is_line (lines_of r) && (committed_first r.entries && (list_all (λ e. is_whole e.told) r.entries && (is_rising r.rows && are_counted 1 r.trace.events)))
