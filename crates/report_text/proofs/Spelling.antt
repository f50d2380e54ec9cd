-- The lines of a report spell its text.
use Rattle.std.proofs.Common.{◌≡◌, ℕ, List, [], ◌∷◌, ◌++◌, length, map, refl, ap, sym, ◌∙◌, append_assoc, decimal, codes}
use Rattle.std.proofs.lemmas.Grind.{flat_map-append}
use Rattle.std.proofs.lemmas.List.Folds.{flat_map-map}
use Rattle.std.specs.List.{flat_map}
use Rattle.ds_base.specs.declared.row.Row.{Row}
use Rattle.ds_model.specs.declared.report.ToldRead.{ToldRead}
use Rattle.ds_model.specs.declared.report.ToldRead.TheVariants as read
use Rattle.ds_model.specs.declared.report.Told.{Told}
use Rattle.ds_model.specs.declared.report.Told.TheVariants as told
use Rattle.ds_model.specs.declared.report.ReportEntry.{ReportEntry}
use Rattle.ds_model.specs.declared.report.Trace.{Trace}
use Rattle.ds_model.specs.declared.report.Report.{Report}
use Rattle.ds_model.specs.ScriptText.{line}
use Rattle.ds_model.specs.ReportText.{scanned_text, read_text, row_text, who_text, told_text, entry_text, cause_text, event_text, trace_text, report_text}
use Rattle.report_line.specs.declared.line.ReportLine.{ReportLine}
use Rattle.report_line.specs.declared.line.ReportLine.TheVariants as lines
use Rattle.report_line.specs.Lines.{line_text}
use Rattle.report_text.specs.Grammar.{scanned_line, read_lines, told_lines, entry_lines, head_lines, lines_of}
use Rattle.report_text.proofs.Growth.{append_nil}

abbrev texts : List ReportLine → List ℕ
texts ls = flat_map line_text ls

read_spelled : (x : ToldRead) → texts (read_lines x) ≡ read_text x
read_spelled (read.Get table key value) = append_nil (line_text (lines.Read table key value))
read_spelled (read.Scan table low high rows) = ap (λ (rest : List ℕ). line_text (lines.Scan table low high (length rows)) ++ rest) (flat_map-map line_text scanned_line rows)

reads_spelled : (xs : List ToldRead) → texts (flat_map read_lines xs) ≡ flat_map read_text xs
reads_spelled [] = refl
reads_spelled (x ∷ xs) =
    flat_map-append line_text (read_lines x) (flat_map read_lines xs) ∙ ap (λ (front : List ℕ). front ++ texts (flat_map read_lines xs)) (read_spelled x)
    ∙ ap (λ (rest : List ℕ). read_text x ++ rest) (reads_spelled xs)

told_spelled : (name : List ℕ) (member : ℕ) (t : Told) → texts (told_lines name member t) ≡ told_text (who_text name member) t
told_spelled name member (told.Committed answered reads) = ap (λ (rest : List ℕ). line_text (lines.Committed name member answered) ++ rest) (reads_spelled reads)
told_spelled name member (told.Refused refusal) = append_nil (line_text (lines.Refused name member refusal))
told_spelled name member told.Stopped = append_nil (line_text (lines.Stopped name member))

entries_spelled : (es : List ReportEntry) → texts (flat_map entry_lines es) ≡ flat_map entry_text es
entries_spelled [] = refl
entries_spelled (e ∷ es) =
    flat_map-append line_text (entry_lines e) (flat_map entry_lines es) ∙ ap (λ (front : List ℕ). front ++ texts (flat_map entry_lines es)) (told_spelled e.name e.member e.told)
    ∙ ap (λ (rest : List ℕ). entry_text e ++ rest) (entries_spelled es)

trace_spelled : (t : Trace) → texts (map lines.Cause t.causes ++ map lines.Event t.events) ≡ trace_text t
trace_spelled t =
    flat_map-append line_text (map lines.Cause t.causes) (map lines.Event t.events) ∙ ap (λ (front : List ℕ). front ++ texts (map lines.Event t.events)) (flat_map-map line_text lines.Cause t.causes)
    ∙ ap (λ (rest : List ℕ). flat_map cause_text t.causes ++ rest) (flat_map-map line_text lines.Event t.events)

head_spelled : (r : Report) → texts (head_lines r) ≡ line_text lines.Opening ++ (flat_map entry_text r.entries ++ trace_text r.trace)
head_spelled r =
    ap (λ (rest : List ℕ). line_text lines.Opening ++ rest)
    (flat_map-append line_text (flat_map entry_lines r.entries) (map lines.Cause r.trace.causes ++ map lines.Event r.trace.events)
    ∙ ap (λ (front : List ℕ). front ++ texts (map lines.Cause r.trace.causes ++ map lines.Event r.trace.events)) (entries_spelled r.entries)
    ∙ ap (λ (rest : List ℕ). flat_map entry_text r.entries ++ rest) (trace_spelled r.trace))

tail_spelled : (r : Report) → texts (lines.Rows (length r.rows) ∷ (map lines.Row r.rows ++ lines.End r.status ∷ [])) ≡ line_text (lines.Rows (length r.rows)) ++ (flat_map row_text r.rows ++ line_text (lines.End r.status))
tail_spelled r =
    ap (λ (rest : List ℕ). line_text (lines.Rows (length r.rows)) ++ rest)
    (flat_map-append line_text (map lines.Row r.rows) (lines.End r.status ∷ []) ∙ ap (λ (front : List ℕ). front ++ texts (lines.End r.status ∷ [])) (flat_map-map line_text lines.Row r.rows)
    ∙ ap (λ (rest : List ℕ). flat_map row_text r.rows ++ rest) (append_nil (line_text (lines.End r.status))))

regroup : (o e t r w x : List ℕ) → (o ++ (e ++ t)) ++ (r ++ (w ++ x)) ≡ ((((o ++ e) ++ t) ++ r) ++ w) ++ x
regroup o e t r w x = simp append_assoc

pub spelled : (r : Report) → flat_map line_text (lines_of r) ≡ report_text r
spelled r =
    flat_map-append line_text (head_lines r) (lines.Rows (length r.rows) ∷ (map lines.Row r.rows ++ lines.End r.status ∷ []))
    ∙ ap (λ (front : List ℕ). front ++ texts (lines.Rows (length r.rows) ∷ (map lines.Row r.rows ++ lines.End r.status ∷ []))) (head_spelled r)
    ∙ ap (λ (rest : List ℕ). (line_text lines.Opening ++ (flat_map entry_text r.entries ++ trace_text r.trace)) ++ rest) (tail_spelled r)
    ∙ regroup (line_text lines.Opening) (flat_map entry_text r.entries) (trace_text r.trace) (line_text (lines.Rows (length r.rows))) (flat_map row_text r.rows) (line_text (lines.End r.status))
