-- Each report is read from its text.
use Rattle.std.proofs.Common.{◌≡◌, ℕ, zero, suc, ◌+◌, ◌<◌, ◌==◌, Bool, true, false, not, ◌&&◌, if◌then◌else◌, nat_lt, List, [], ◌∷◌, ◌++◌, length, map, get_or, Option, Some, None, Result, Ok, Err, refl, ap, sym, ◌∙◌, subst, arith, append_assoc}
use Rattle.std.proofs.lemmas.Bool.Decides.{nat_tests}
use Rattle.std.proofs.lemmas.List.{length-append}
use Rattle.std.proofs.lemmas.List.Sums.{AllPass-from_list_all}
use Rattle.std.proofs.lemmas.List.Splits.{slice_split_at}
use Rattle.std.specs.List.{flat_map, list_all, All}
use Rattle.ds_base.specs.declared.row.Row.{Row}
use Rattle.ds_model.specs.declared.report.Told.{Told}
use Rattle.ds_model.specs.declared.report.Told.TheVariants as told
use Rattle.ds_model.specs.declared.report.ReportEntry.{ReportEntry}
use Rattle.ds_model.specs.declared.report.CauseLine.{CauseLine}
use Rattle.ds_model.specs.declared.report.EventLine.{EventLine}
use Rattle.ds_model.specs.declared.report.Report.{Report}
use Rattle.ds_model.specs.ReportText.{report_text}
use Rattle.report_line.specs.declared.line.ReportLine.{ReportLine}
use Rattle.report_line.specs.declared.line.ReportLine.TheVariants as lines
use Rattle.report_line.specs.Lines.{is_line, line_text}
use Rattle.report_line.specs.Bodies.{line_body, is_inner_byte}
use Rattle.report_line.specs.Reading.{line_in}
use Rattle.report_text.specs.declared.draft.Stage.{Stage}
use Rattle.report_text.specs.declared.draft.Stage.TheVariants as stage
use Rattle.report_text.specs.declared.draft.Draft.{Draft}
use Rattle.report_text.specs.declared.error.ReportError.{ReportError}
use Rattle.report_text.specs.Grammar.{told_lines, entry_lines, head_lines, lines_of, is_rising, is_whole, is_committed, committed_first, are_counted, is_report}
use Rattle.report_text.specs.Steps.{takes_committed, takes_others, takes_causes, takes_events, draft_at, with_cause, with_event, with_row, may_follow, step, step_if, step_text, start, is_done, finished, next_number, report_then, report_from, report_of, lines_in, Gives}
use Rattle.report_text.proofs.Bools.{and_left, and_right, and_both}
use Rattle.report_text.proofs.Growth.{append_nil, is_whole_entry}
use Rattle.report_text.proofs.Sound.{others_too, causes_too, events_too}
use Rattle.report_text.proofs.Spelling.{spelled}
use Rattle.report_text.proofs.Walk.{from_more}
use Rattle.report_text.proofs.Runs.{run_then, run, joined, first, so, answered, Ran, one_more, other_runs, others_run, no_reads, answered_runs, unanswered_runs, follows_front, step_opening, step_cause, step_event, step_count, step_row, step_end}

-- ---- all entries

abbrev unanswered : List ℕ → ℕ → ReportEntry
unanswered name member = record { name = name; member = member; told = told.Committed false [] }

entry_then : (t : Told) (name : List ℕ) (member : ℕ) (es : List ReportEntry) (s : Stage) (front : List ReportEntry) → takes_committed s ≡ true
    → (if is_committed t then committed_first es else list_all (λ (e : ReportEntry). not (is_committed e.told)) es) ≡ true → is_whole t ≡ true
    → ((here : Stage) (more : List ReportEntry) → takes_committed here ≡ true → committed_first es ≡ true → Ran takes_others (draft_at here (so more [] [] [])) (flat_map entry_lines es) (so (more ++ es) [] [] []))
    → Ran takes_others (draft_at s (so front [] [] [])) (told_lines name member t ++ flat_map entry_lines es) (so (front ++ ((record { name = name; member = member; told = t }) ∷ es)) [] [] [])
entry_then (told.Committed true reads) name member es s front t f w ih =
    one_more (draft_at s (so front [] [] [])) stage.Reads front (answered name member reads) es (told_lines name member (told.Committed true reads)) (answered_runs s front name member reads t w) (ih stage.Reads (front ++ answered name member reads ∷ []) refl f)
entry_then (told.Committed false reads) name member es s front t f w ih =
    subst (λ rs. Ran takes_others (draft_at s (so front [] [] [])) (told_lines name member (told.Committed false rs) ++ flat_map entry_lines es) (so (front ++ ((record { name = name; member = member; told = told.Committed false rs }) ∷ es)) [] [] []))
    (sym (no_reads reads w))
    (one_more (draft_at s (so front [] [] [])) stage.Committed front (unanswered name member) es (told_lines name member (told.Committed false [])) (unanswered_runs s front name member t) (ih stage.Committed (front ++ unanswered name member ∷ []) refl f))
entry_then (told.Refused refusal) name member es s front t f w ih =
    let e : ReportEntry = record { name = name; member = member; told = told.Refused refusal } in
    one_more (draft_at s (so front [] [] [])) stage.Others front e es (entry_lines e) (other_runs s front e refl (others_too s t)) (others_run es stage.Others (front ++ e ∷ []) refl f)
entry_then told.Stopped name member es s front t f w ih =
    let e : ReportEntry = record { name = name; member = member; told = told.Stopped } in
    one_more (draft_at s (so front [] [] [])) stage.Others front e es (entry_lines e) (other_runs s front e refl (others_too s t)) (others_run es stage.Others (front ++ e ∷ []) refl f)

entries_run : (es : List ReportEntry) (s : Stage) (front : List ReportEntry) → takes_committed s ≡ true → committed_first es ≡ true → list_all is_whole_entry es ≡ true → Ran takes_others (draft_at s (so front [] [] [])) (flat_map entry_lines es) (so (front ++ es) [] [] [])
entries_run [] s front t f w = record { to = s; fits = others_too s t; ran = ap (λ (all : List ReportEntry). Some (draft_at s (so all [] [] []))) (sym (append_nil front)) }
entries_run (e ∷ es) s front t f w =
    entry_then e.told e.name e.member es s front t f (and_left (is_whole e.told) (list_all is_whole_entry es) w) (λ here more c g. entries_run es here more c g (and_right (is_whole e.told) (list_all is_whole_entry es) w))

-- ---- the trace

causes_run : (cs : List CauseLine) (s : Stage) (es : List ReportEntry) (front : List CauseLine) → takes_causes s ≡ true → Ran takes_causes (draft_at s (so es front [] [])) (map lines.Cause cs) (so es (front ++ cs) [] [])
causes_run [] s es front t = record { to = s; fits = t; ran = ap (λ (all : List CauseLine). Some (draft_at s (so es all [] []))) (sym (append_nil front)) }
causes_run (c ∷ cs) s es front t =
    let later = causes_run cs stage.Causes es (front ++ c ∷ []) refl in
    record {
      to = later.to;
      fits = later.fits;
      ran = first (lines.Cause c) (map lines.Cause cs) (draft_at s (so es front [] [])) (draft_at stage.Causes (so es (front ++ c ∷ []) [] [])) (draft_at later.to (so es ((front ++ c ∷ []) ++ cs) [] [])) (step_cause s (so es front [] []) c t) later.ran
          ∙ ap (λ (all : List CauseLine). Some (draft_at later.to (so es all [] []))) (append_assoc front (c ∷ []) cs);
    }

events_run : (vs : List EventLine) (s : Stage) (es : List ReportEntry) (cs : List CauseLine) (front : List EventLine) → takes_events s ≡ true → are_counted (length front + 1) vs ≡ true → Ran takes_events (draft_at s (so es cs front [])) (map lines.Event vs) (so es cs (front ++ vs) [])
events_run [] s es cs front t h = record { to = s; fits = t; ran = ap (λ (all : List EventLine). Some (draft_at s (so es cs all []))) (sym (append_nil front)) }
events_run (v ∷ vs) s es cs front t h =
    let long : length (front ++ v ∷ []) ≡ length front + 1 = omega (arith, length-append front (v ∷ [])) in
    let next = subst (λ (n : ℕ). are_counted (n + 1) vs ≡ true) (sym long) (and_right (v.place == length front + 1) (are_counted (length front + 1 + 1) vs) h) in
    let later = events_run vs stage.Events es cs (front ++ v ∷ []) refl next in
    let takes = and_both (takes_events s) (v.place == length front + 1) t (and_left (v.place == length front + 1) (are_counted (length front + 1 + 1) vs) h) in
    record {
      to = later.to;
      fits = later.fits;
      ran = first (lines.Event v) (map lines.Event vs) (draft_at s (so es cs front [])) (draft_at stage.Events (so es cs (front ++ v ∷ []) [])) (draft_at later.to (so es cs ((front ++ v ∷ []) ++ vs) [])) (step_event s (so es cs front []) v takes) later.ran
          ∙ ap (λ (all : List EventLine). Some (draft_at later.to (so es cs all []))) (append_assoc front (v ∷ []) vs);
    }

-- ---- the rows

rows_run : (rest front : List Row) (es : List ReportEntry) (cs : List CauseLine) (vs : List EventLine) (count : ℕ) → count ≡ length front + length rest → is_rising (front ++ rest) ≡ true
    → run (draft_at (stage.Rows count) (so es cs vs front)) (map lines.Row rest) ≡ Some (draft_at (stage.Rows count) (so es cs vs (front ++ rest)))
rows_run [] front es cs vs count n up = ap (λ (all : List Row). Some (draft_at (stage.Rows count) (so es cs vs all))) (sym (append_nil front))
rows_run (row ∷ rest) front es cs vs count n up =
    let below : nat_lt (length front) count ≡ true = (let m : length front < count = omega arith in grind (arith, nat_tests)) in
    let takes = and_both (nat_lt (length front) count) (may_follow front row) below (follows_front front rest row up) in
    let long : length (front ++ row ∷ []) ≡ length front + 1 = omega (arith, length-append front (row ∷ [])) in
    let assoc = append_assoc front (row ∷ []) rest in
    let later = rows_run rest (front ++ row ∷ []) es cs vs count (omega arith) (subst (λ (rows : List Row). is_rising rows ≡ true) (sym assoc) up) in
    first (lines.Row row) (map lines.Row rest) (draft_at (stage.Rows count) (so es cs vs front)) (draft_at (stage.Rows count) (so es cs vs (front ++ row ∷ []))) (draft_at (stage.Rows count) (so es cs vs ((front ++ row ∷ []) ++ rest))) (step_row (so es cs vs front) count row takes) later
    ∙ ap (λ (all : List Row). Some (draft_at (stage.Rows count) (so es cs vs all))) assoc

-- ---- the whole report

same_length : (rows : List Row) → (length rows == length rows) ≡ true
same_length rows = grind (arith, nat_tests)

whole_runs : (r : Report) → committed_first r.entries ≡ true → list_all is_whole_entry r.entries ≡ true → is_rising r.rows ≡ true → are_counted 1 r.trace.events ≡ true → run start (lines_of r) ≡ Some (draft_at stage.Done r)
whole_runs r f w up n =
    let es = r.entries in
    let cs = r.trace.causes in
    let vs = r.trace.events in
    let count = length r.rows in
    let e = entries_run es stage.Committed [] refl f w in
    let c = causes_run cs e.to es [] (causes_too e.to e.fits) in
    let v = events_run vs c.to es cs [] (events_too c.to c.fits) n in
    let opened = draft_at stage.Committed (so [] [] [] []) in
    let told_all = draft_at e.to (so es [] [] []) in
    let caused_all = draft_at c.to (so es cs [] []) in
    let traced = draft_at v.to (so es cs vs []) in
    let counted = draft_at (stage.Rows count) (so es cs vs []) in
    let rowed = draft_at (stage.Rows count) (so es cs vs r.rows) in
    let done = draft_at stage.Done r in
    let trace = joined (map lines.Cause cs) (map lines.Event vs) told_all caused_all traced c.ran v.ran in
    let body = joined (flat_map entry_lines es) (map lines.Cause cs ++ map lines.Event vs) opened told_all traced e.ran trace in
    let head = first lines.Opening (flat_map entry_lines es ++ (map lines.Cause cs ++ map lines.Event vs)) start opened traced step_opening body in
    let last = first (lines.End r.status) [] rowed done done (step_end (so es cs vs r.rows) count r.status (same_length r.rows)) refl in
    let rows = joined (map lines.Row r.rows) (lines.End r.status ∷ []) counted rowed done (rows_run r.rows [] es cs vs count (omega arith) up) last in
    let tail = first (lines.Rows count) (map lines.Row r.rows ++ lines.End r.status ∷ []) traced counted done (step_count v.to (so es cs vs []) count v.fits) rows in
    joined (head_lines r) (lines.Rows count ∷ (map lines.Row r.rows ++ lines.End r.status ∷ [])) start traced done head tail

-- ---- from the text

go_at : (n : ℕ) (found : Option Draft) (go : Draft → Result Report ℕ) (ls : List ReportLine) (d : Draft) → run_then found (λ next. run next ls) ≡ Some d → ((next : Draft) → run next ls ≡ Some d → go next ≡ Ok d.report) → report_then n found go ≡ Ok d.report
go_at n None go ls d e on = cc
go_at n (Some next) go ls d e on = on next e

done_ok : (b : Bool) (n : ℕ) (r : Report) → b ≡ true → (if b then Ok r else Err n) ≡ Ok r
done_ok true n r h = refl
done_ok false n r h = cc

from_lines : ((l : ReportLine) → is_line l ≡ true → line_in (line_body l) ≡ Some l) → (ls : List ReportLine) (n : ℕ) (d last : Draft) → list_all is_line ls ≡ true → run d ls ≡ Some last → is_done last.stage ≡ true
    → report_from n d (map line_body ls ++ [] ∷ []) ≡ Ok last.report
from_lines again [] n d last all e t = let same : last ≡ d = cc in subst (λ (q : Draft). finished n q [] ≡ Ok last.report) same (done_ok (is_done last.stage) n last.report t)
from_lines again (l ∷ ls) n d last all e t =
    let parts = map line_body ls ++ [] ∷ [] in
    let some : 0 < length parts = omega (arith, length-append (map line_body ls) ([] ∷ [])) in
    from_more n d (line_body l) parts some
    ∙ (ap (λ (found : Option ReportLine). report_then n (step_if d found) (λ later. report_from (next_number n) later parts)) (again l (and_left (is_line l) (list_all is_line ls) all))
    ∙ go_at n (step d l) (λ later. report_from (next_number n) later parts) ls last e (λ next is. from_lines again ls (next_number n) next last (and_right (is_line l) (list_all is_line ls) all) is t))

elim_not : (b : Bool) → not b ≡ true → b ≡ false
elim_not true h = cc
elim_not false h = refl

inner_byte : (b : ℕ) → is_inner_byte b ≡ true → (b == 10) ≡ false
inner_byte b h = elim_not (b == 10) h

no_feed : (body : List ℕ) → list_all is_inner_byte body ≡ true → All (λ b. (b == 10) ≡ false) body
no_feed body h = let each = AllPass-from_list_all is_inner_byte body h in λ k d lt. inner_byte (get_or body k d) (each k d lt)

cut_lines : ((l : ReportLine) → line_text l ≡ line_body l ++ 10 ∷ []) → ((l : ReportLine) → is_line l ≡ true → list_all is_inner_byte (line_body l) ≡ true) → (ls : List ReportLine) → list_all is_line ls ≡ true
    → lines_in (flat_map line_text ls) ≡ map line_body ls ++ [] ∷ []
cut_lines whole inner [] all = refl
cut_lines whole inner (l ∷ ls) all =
    let rest = flat_map line_text ls in
    ap (λ (t : List ℕ). lines_in (t ++ rest)) (whole l) ∙ ap lines_in (append_assoc (line_body l) (10 ∷ []) rest)
    ∙ (slice_split_at (λ (b : ℕ). b == 10) (line_body l) 10 rest (no_feed (line_body l) (inner l (and_left (is_line l) (list_all is_line ls) all))) refl
    ∙ ap (λ (parts : List (List ℕ)). line_body l ∷ parts) (cut_lines whole inner ls (and_right (is_line l) (list_all is_line ls) all)))

pub spelling_is_read : ((l : ReportLine) → line_text l ≡ line_body l ++ 10 ∷ []) → ((l : ReportLine) → is_line l ≡ true → list_all is_inner_byte (line_body l) ≡ true) → ((l : ReportLine) → is_line l ≡ true → line_in (line_body l) ≡ Some l)
    → (bytes : List ℕ) (r : Report) → is_report r ≡ true → bytes ≡ report_text r → report_of bytes ≡ Ok r
unfolding report_of
spelling_is_read whole inner again bytes r h e =
    let order = committed_first r.entries && (list_all is_whole_entry r.entries && (is_rising r.rows && are_counted 1 r.trace.events)) in
    let all = and_left (list_all is_line (lines_of r)) order h in
    let ordered = and_right (list_all is_line (lines_of r)) order h in
    let f = and_left (committed_first r.entries) (list_all is_whole_entry r.entries && (is_rising r.rows && are_counted 1 r.trace.events)) ordered in
    let rest = and_right (committed_first r.entries) (list_all is_whole_entry r.entries && (is_rising r.rows && are_counted 1 r.trace.events)) ordered in
    let w = and_left (list_all is_whole_entry r.entries) (is_rising r.rows && are_counted 1 r.trace.events) rest in
    let last = and_right (list_all is_whole_entry r.entries) (is_rising r.rows && are_counted 1 r.trace.events) rest in
    let runs = whole_runs r f w (and_left (is_rising r.rows) (are_counted 1 r.trace.events) last) (and_right (is_rising r.rows) (are_counted 1 r.trace.events) last) in
    ap (λ (b : List ℕ). report_from 1 start (lines_in b)) (e ∙ sym (spelled r)) ∙ ap (report_from 1 start) (cut_lines whole inner (lines_of r) all) ∙ from_lines again (lines_of r) 1 start (draft_at stage.Done r) all runs refl

pub only_of : (result : Result Report ReportError) (bytes : List ℕ) (r : Report) → Gives result (report_of bytes) → report_of bytes ≡ Ok r → Gives result (Ok r)
only_of result bytes r g e = subst (Gives result) e g
