-- The line that is told of work that was drawn from a number.
use Rattle.std.specs.Prelude.{ℕ, Bool, true, false, List, ◌++◌, length, codes, decimal}
use Rattle.std.specs.List.{count_by}
use Rattle.ds_model.specs.declared.report.Told.{Told}
use Rattle.ds_model.specs.declared.report.Told.TheVariants as told
use Rattle.ds_model.specs.declared.report.ReportEntry.{ReportEntry}
use Rattle.ds_model.specs.declared.report.Report.{Report}
use Rattle.ds_model.specs.ScriptText.{line}

abbrev pub is_committed_fate : Told → Bool
is_committed_fate (told.Committed answered reads) = true
is_committed_fate (told.Refused refusal) = false
is_committed_fate told.Stopped = false

abbrev pub is_refused_fate : Told → Bool
is_refused_fate (told.Committed answered reads) = false
is_refused_fate (told.Refused refusal) = true
is_refused_fate told.Stopped = false

abbrev pub is_stopped_fate : Told → Bool
is_stopped_fate (told.Committed answered reads) = false
is_stopped_fate (told.Refused refusal) = false
is_stopped_fate told.Stopped = true

abbrev pub is_committed : ReportEntry → Bool
is_committed entry = is_committed_fate entry.told

abbrev pub is_refused : ReportEntry → Bool
is_refused entry = is_refused_fate entry.told

abbrev pub is_stopped : ReportEntry → Bool
is_stopped entry = is_stopped_fate entry.told

abbrev pub count_text : List ℕ → ℕ → List ℕ
count_text word number = word ++ decimal number

-- how many transactions there are, and how many of each fate
unfoldable pub fates_text : List ReportEntry → List ℕ
fates_text entries =
    count_text (codes " transactions ") (length entries)
    ++ (count_text (codes " committed ") (count_by is_committed entries) ++ (count_text (codes " refused ") (count_by is_refused entries) ++ count_text (codes " stopped ") (count_by is_stopped entries)))

-- the script's number, its transactions by their fates, the rows afterwards and the status
unfoldable pub summary_text : ℕ → Report → List ℕ
summary_text n report =
    line (count_text (codes "work ") n ++ fates_text report.entries ++ count_text (codes " rows ") (length report.rows) ++ count_text (codes " end ") report.status)
