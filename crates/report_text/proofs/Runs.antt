-- The lines of a report, taken one after the other.
use Rattle.std.proofs.Common.{◌≡◌, ℕ, zero, suc, ◌+◌, ◌-◌, ◌<◌, ◌≤◌, ◌==◌, Bool, true, false, not, ◌&&◌, if◌then◌else◌, nat_lt, List, [], ◌∷◌, ◌++◌, length, map, Option, Some, None, refl, ap, sym, ◌∙◌, subst, arith, append_assoc}
use Rattle.std.proofs.lemmas.Bool.Decides.{nat_tests}
use Rattle.std.proofs.lemmas.List.{length-append}
use Rattle.std.specs.List.{flat_map, list_all}
use Rattle.ds_base.specs.declared.row.Row.{Row}
use Rattle.ds_model.specs.declared.report.ToldRead.{ToldRead}
use Rattle.ds_model.specs.declared.report.ToldRead.TheVariants as read
use Rattle.ds_model.specs.declared.report.Told.{Told}
use Rattle.ds_model.specs.declared.report.Told.TheVariants as told
use Rattle.ds_model.specs.declared.report.ReportEntry.{ReportEntry}
use Rattle.ds_model.specs.declared.report.CauseLine.{CauseLine}
use Rattle.ds_model.specs.declared.report.EventLine.{EventLine}
use Rattle.ds_model.specs.declared.report.Report.{Report}
use Rattle.report_line.specs.declared.line.ReportLine.{ReportLine}
use Rattle.report_line.specs.declared.line.ReportLine.TheVariants as lines
use Rattle.report_text.specs.declared.draft.Stage.{Stage}
use Rattle.report_text.specs.declared.draft.Stage.TheVariants as stage
use Rattle.report_text.specs.declared.draft.Draft.{Draft}
use Rattle.report_text.specs.Grammar.{scanned_line, read_lines, told_lines, entry_lines, head_lines, lines_of, is_before, rises_from, is_rising, is_whole, is_whole_read, is_committed, committed_first, are_counted}
use Rattle.report_text.specs.Steps.{takes_committed, takes_others, takes_causes, takes_events, draft_at, with_entry, with_read, last_with, with_cause, with_event, with_row, may_follow, scanning, step, start}
use Rattle.report_text.proofs.Bools.{and_left, and_right, and_both, same_number}
use Rattle.report_text.proofs.Growth.{append_nil, is_whole_entry}
use Rattle.report_text.proofs.Lists.{last_with_push}
use Rattle.report_text.proofs.Sound.{others_too, causes_too, events_too}

abbrev pub run_then : Option Draft → (Draft → Option Draft) → Option Draft
run_then None go = None
run_then (Some d) go = go d

abbrev pub run : Draft → List ReportLine → Option Draft
run d [] = Some d
run d (l ∷ ls) = run_then (step d l) (λ next. run next ls)

joined_at : (found : Option Draft) (xs ys : List ReportLine) (d1 d2 : Draft) → run_then found (λ next. run next xs) ≡ Some d1
    → ((next : Draft) → run next xs ≡ Some d1 → run next (xs ++ ys) ≡ Some d2) → run_then found (λ next. run next (xs ++ ys)) ≡ Some d2
joined_at None xs ys d1 d2 e on = cc
joined_at (Some d) xs ys d1 d2 e on = on d e

pub joined : (xs ys : List ReportLine) (d d1 d2 : Draft) → run d xs ≡ Some d1 → run d1 ys ≡ Some d2 → run d (xs ++ ys) ≡ Some d2
joined [] ys d d1 d2 e f = let same : d1 ≡ d = cc in subst (λ (q : Draft). run q ys ≡ Some d2) same f
joined (x ∷ xs) ys d d1 d2 e f = joined_at (step d x) xs ys d1 d2 e (λ next is. joined xs ys next d1 d2 is f)

pub first : (l : ReportLine) (ls : List ReportLine) (d d1 d2 : Draft) → step d l ≡ Some d1 → run d1 ls ≡ Some d2 → run d (l ∷ ls) ≡ Some d2
first l ls d d1 d2 e f = ap (λ (found : Option Draft). run_then found (λ next. run next ls)) e ∙ f

taken : (b : Bool) (d : Draft) → b ≡ true → (if b then Some d else None) ≡ Some d
taken true d h = refl
taken false d h = cc

-- ---- single lines

pub step_entry : (s : Stage) (r : Report) (name : List ℕ) (member : ℕ) (answered : Bool) → takes_committed s ≡ true
    → step (draft_at s r) (lines.Committed name member answered) ≡ Some (draft_at (if answered then stage.Reads else stage.Committed) (with_entry r (record { name = name; member = member; told = told.Committed answered [] })))
unfolding step
step_entry s r name member answered t = taken (takes_committed s) (draft_at (if answered then stage.Reads else stage.Committed) (with_entry r (record { name = name; member = member; told = told.Committed answered [] }))) t

pub step_get : (r : Report) (table key : ℕ) (value : Option (List ℕ)) → step (draft_at stage.Reads r) (lines.Read table key value) ≡ Some (draft_at stage.Reads (with_read r (read.Get table key value)))
unfolding step
step_get r table key value = refl

pub step_scan : (r : Report) (table low high count : ℕ) → step (draft_at stage.Reads r) (lines.Scan table low high count) ≡ Some (scanning r table low high count [])
unfolding step
step_scan r table low high count = refl

pub step_scanned : (r : Report) (table low high count : ℕ) (rows : List Row) (row : Row) → ((row.table == table) && may_follow rows row) ≡ true
    → step (draft_at (stage.Scan table low high count rows) r) (scanned_line row) ≡ Some (scanning r table low high count (rows ++ row ∷ []))
unfolding step
step_scanned r table low high count rows row h = taken ((row.table == table) && may_follow rows row) (scanning r table low high count (rows ++ row ∷ [])) h

pub step_refused : (s : Stage) (r : Report) (name : List ℕ) (member : ℕ) (t : Told) (l : ReportLine) → is_committed t ≡ false → told_lines name member t ≡ l ∷ [] → takes_others s ≡ true
    → step (draft_at s r) l ≡ Some (draft_at stage.Others (with_entry r (record { name = name; member = member; told = t })))
unfolding step
step_refused s r name member (told.Committed answered reads) l other is h = cc
step_refused s r name member (told.Refused refusal) l other is h =
    let same : lines.Refused name member refusal ≡ l = cc in
    subst (λ (q : ReportLine). step (draft_at s r) q ≡ Some (draft_at stage.Others (with_entry r (record { name = name; member = member; told = told.Refused refusal })))) same
    (taken (takes_others s) (draft_at stage.Others (with_entry r (record { name = name; member = member; told = told.Refused refusal }))) h)
step_refused s r name member told.Stopped l other is h =
    let same : lines.Stopped name member ≡ l = cc in
    subst (λ (q : ReportLine). step (draft_at s r) q ≡ Some (draft_at stage.Others (with_entry r (record { name = name; member = member; told = told.Stopped })))) same
    (taken (takes_others s) (draft_at stage.Others (with_entry r (record { name = name; member = member; told = told.Stopped }))) h)

pub step_cause : (s : Stage) (r : Report) (c : CauseLine) → takes_causes s ≡ true → step (draft_at s r) (lines.Cause c) ≡ Some (draft_at stage.Causes (with_cause r c))
unfolding step
step_cause s r c t = taken (takes_causes s) (draft_at stage.Causes (with_cause r c)) t

pub step_event : (s : Stage) (r : Report) (e : EventLine) → (takes_events s && (e.place == length r.trace.events + 1)) ≡ true → step (draft_at s r) (lines.Event e) ≡ Some (draft_at stage.Events (with_event r e))
unfolding step
step_event s r e t = taken (takes_events s && (e.place == length r.trace.events + 1)) (draft_at stage.Events (with_event r e)) t

pub step_count : (s : Stage) (r : Report) (count : ℕ) → takes_events s ≡ true → step (draft_at s r) (lines.Rows count) ≡ Some (draft_at (stage.Rows count) r)
unfolding step
step_count s r count t = taken (takes_events s) (draft_at (stage.Rows count) r) t

pub step_row : (r : Report) (count : ℕ) (row : Row) → (nat_lt (length r.rows) count && may_follow r.rows row) ≡ true → step (draft_at (stage.Rows count) r) (lines.Row row) ≡ Some (draft_at (stage.Rows count) (with_row r row))
unfolding step
step_row r count row t = taken (nat_lt (length r.rows) count && may_follow r.rows row) (draft_at (stage.Rows count) (with_row r row)) t

pub step_end : (r : Report) (count status : ℕ) → (length r.rows == count) ≡ true → step (draft_at (stage.Rows count) r) (lines.End status) ≡ Some (draft_at stage.Done (record r { status = status }))
unfolding step
step_end r count status t = taken (length r.rows == count) (draft_at stage.Done (record r { status = status })) t

pub step_opening : step start lines.Opening ≡ Some (draft_at stage.Committed start.report)
unfolding step
step_opening = refl

-- ---- rows

pub follows_front : (front rest : List Row) (row : Row) → is_rising (front ++ (row ∷ rest)) ≡ true → may_follow front row ≡ true
follows_front [] rest row h = refl
follows_front (a ∷ []) rest row h = and_left (is_before a row) (rises_from row rest) h
follows_front (a ∷ b ∷ front) rest row h = follows_front (b ∷ front) rest row (and_right (is_before a b) (rises_from b (front ++ (row ∷ rest))) h)

scan_at_end : (b : Bool) (r : Report) (table low high count : ℕ) (rows : List Row) → b ≡ true
    → (if b then draft_at stage.Reads (with_read r (read.Scan table low high rows)) else draft_at (stage.Scan table low high count rows) r) ≡ draft_at stage.Reads (with_read r (read.Scan table low high rows))
scan_at_end true r table low high count rows h = refl
scan_at_end false r table low high count rows h = cc

scan_before : (b : Bool) (r : Report) (table low high count : ℕ) (rows : List Row) → b ≡ false
    → (if b then draft_at stage.Reads (with_read r (read.Scan table low high rows)) else draft_at (stage.Scan table low high count rows) r) ≡ draft_at (stage.Scan table low high count rows) r
scan_before true r table low high count rows h = cc
scan_before false r table low high count rows h = refl

pub scan_runs : (rest front : List Row) (r : Report) (table low high count : ℕ) → count ≡ length front + length rest → list_all (λ (row : Row). row.table == table) rest ≡ true → is_rising (front ++ rest) ≡ true
    → run (scanning r table low high count front) (map scanned_line rest) ≡ Some (draft_at stage.Reads (with_read r (read.Scan table low high (front ++ rest))))
scan_runs [] front r table low high count n of up =
    let full : (length front == count) ≡ true = (let m : length front ≡ count = omega arith in grind (arith, nat_tests)) in
    ap (λ (d : Draft). run d []) (scan_at_end (length front == count) r table low high count front full)
    ∙ ap (λ (rows : List Row). Some (draft_at stage.Reads (with_read r (read.Scan table low high rows)))) (sym (append_nil front))
scan_runs (row ∷ rest) front r table low high count n of up =
    let open_ : (length front == count) ≡ false = (let m : length front < count = omega arith in grind (arith, nat_tests)) in
    let takes = and_both (row.table == table) (may_follow front row) (and_left (row.table == table) (list_all (λ (w : Row). w.table == table) rest) of) (follows_front front rest row up) in
    let long : length (front ++ row ∷ []) ≡ length front + 1 = omega (arith, length-append front (row ∷ [])) in
    let assoc = append_assoc front (row ∷ []) rest in
    let later = scan_runs rest (front ++ row ∷ []) r table low high count (omega arith) (and_right (row.table == table) (list_all (λ (w : Row). w.table == table) rest) of) (subst (λ (rows : List Row). is_rising rows ≡ true) (sym assoc) up) in
    ap (λ (d : Draft). run d (map scanned_line (row ∷ rest))) (scan_before (length front == count) r table low high count front open_)
    ∙ (first (scanned_line row) (map scanned_line rest) (draft_at (stage.Scan table low high count front) r) (scanning r table low high count (front ++ row ∷ [])) (draft_at stage.Reads (with_read r (read.Scan table low high ((front ++ row ∷ []) ++ rest)))) (step_scanned r table low high count front row takes) later
    ∙ ap (λ (rows : List Row). Some (draft_at stage.Reads (with_read r (read.Scan table low high rows)))) assoc)

pub read_runs : (r : Report) (x : ToldRead) → is_whole_read x ≡ true → run (draft_at stage.Reads r) (read_lines x) ≡ Some (draft_at stage.Reads (with_read r x))
read_runs r (read.Get table key value) h = first (lines.Read table key value) [] (draft_at stage.Reads r) (draft_at stage.Reads (with_read r (read.Get table key value))) (draft_at stage.Reads (with_read r (read.Get table key value))) (step_get r table key value) refl
read_runs r (read.Scan table low high rows) h =
    first (lines.Scan table low high (length rows)) (map scanned_line rows) (draft_at stage.Reads r) (scanning r table low high (length rows) []) (draft_at stage.Reads (with_read r (read.Scan table low high rows))) (step_scan r table low high (length rows))
    (scan_runs rows [] r table low high (length rows) (omega arith) (and_left (list_all (λ (row : Row). row.table == table) rows) (is_rising rows) h) (and_right (list_all (λ (row : Row). row.table == table) rows) (is_rising rows) h))

-- ---- entries

abbrev pub so : List ReportEntry → List CauseLine → List EventLine → List Row → Report
so es cs vs rows = record { entries = es; trace = record { causes = cs; events = vs }; rows = rows; status = 0 }

abbrev pub answered : List ℕ → ℕ → List ToldRead → ReportEntry
answered name member reads = record { name = name; member = member; told = told.Committed true reads }

reads_run : (xs reads : List ToldRead) (front : List ReportEntry) (name : List ℕ) (member : ℕ) → list_all is_whole_read xs ≡ true
    → run (draft_at stage.Reads (so (front ++ answered name member reads ∷ []) [] [] [])) (flat_map read_lines xs) ≡ Some (draft_at stage.Reads (so (front ++ answered name member (reads ++ xs) ∷ []) [] [] []))
reads_run [] reads front name member h = ap (λ (all : List ToldRead). Some (draft_at stage.Reads (so (front ++ answered name member all ∷ []) [] [] []))) (sym (append_nil reads))
reads_run (x ∷ xs) reads front name member h =
    let r = so (front ++ answered name member reads ∷ []) [] [] [] in
    let one = read_runs r x (and_left (is_whole_read x) (list_all is_whole_read xs) h)
    ∙ ap (λ (es : List ReportEntry). Some (draft_at stage.Reads (so es [] [] []))) (last_with_push front (answered name member reads) x) in
    let rest = reads_run xs (reads ++ x ∷ []) front name member (and_right (is_whole_read x) (list_all is_whole_read xs) h) in
    joined (read_lines x) (flat_map read_lines xs) (draft_at stage.Reads r) (draft_at stage.Reads (so (front ++ answered name member (reads ++ x ∷ []) ∷ []) [] [] [])) (draft_at stage.Reads (so (front ++ answered name member ((reads ++ x ∷ []) ++ xs) ∷ []) [] [] [])) one rest
    ∙ ap (λ (all : List ToldRead). Some (draft_at stage.Reads (so (front ++ answered name member all ∷ []) [] [] []))) (append_assoc reads (x ∷ []) xs)

pub record Ran (takes : Stage → Bool) (d : Draft) (ls : List ReportLine) (r : Report) : Type 0 where
  pub to : Stage
  pub fits : takes to ≡ true
  pub ran : run d ls ≡ Some (draft_at to r)

-- an entry, and then the others
pub one_more : (d : Draft) (here : Stage) (front : List ReportEntry) (e : ReportEntry) (es : List ReportEntry) (ls : List ReportLine) → run d ls ≡ Some (draft_at here (so (front ++ e ∷ []) [] [] []))
    → Ran takes_others (draft_at here (so (front ++ e ∷ []) [] [] [])) (flat_map entry_lines es) (so ((front ++ e ∷ []) ++ es) [] [] []) → Ran takes_others d (ls ++ flat_map entry_lines es) (so (front ++ (e ∷ es)) [] [] [])
one_more d here front e es ls now later = record {
  to = later.to;
  fits = later.fits;
  ran = joined ls (flat_map entry_lines es) d (draft_at here (so (front ++ e ∷ []) [] [] [])) (draft_at later.to (so ((front ++ e ∷ []) ++ es) [] [] [])) now later.ran
      ∙ ap (λ (all : List ReportEntry). Some (draft_at later.to (so all [] [] []))) (append_assoc front (e ∷ []) es);
}

lone : (name : List ℕ) (member : ℕ) (t : Told) → is_committed t ≡ false → (l : ReportLine) × (told_lines name member t ≡ l ∷ [])
lone name member (told.Committed answered reads) h = cc
lone name member (told.Refused refusal) h = (lines.Refused name member refusal, refl)
lone name member told.Stopped h = (lines.Stopped name member, refl)

pub other_runs : (s : Stage) (front : List ReportEntry) (e : ReportEntry) → is_committed e.told ≡ false → takes_others s ≡ true → run (draft_at s (so front [] [] [])) (entry_lines e) ≡ Some (draft_at stage.Others (so (front ++ e ∷ []) [] [] []))
other_runs s front e h t =
    let one = lone e.name e.member e.told h in
    ap (run (draft_at s (so front [] [] []))) one.1
    ∙ first one.0 [] (draft_at s (so front [] [] [])) (draft_at stage.Others (so (front ++ e ∷ []) [] [] [])) (draft_at stage.Others (so (front ++ e ∷ []) [] [] [])) (step_refused s (so front [] [] []) e.name e.member e.told one.0 h one.1 t) refl

not_true : (b : Bool) → not b ≡ true → b ≡ false
not_true true h = cc
not_true false h = refl

pub others_run : (es : List ReportEntry) (s : Stage) (front : List ReportEntry) → takes_others s ≡ true → list_all (λ (e : ReportEntry). not (is_committed e.told)) es ≡ true → Ran takes_others (draft_at s (so front [] [] [])) (flat_map entry_lines es) (so (front ++ es) [] [] [])
others_run [] s front t h = record { to = s; fits = t; ran = ap (λ (all : List ReportEntry). Some (draft_at s (so all [] [] []))) (sym (append_nil front)) }
others_run (e ∷ es) s front t h =
    one_more (draft_at s (so front [] [] [])) stage.Others front e es (entry_lines e) (other_runs s front e (not_true (is_committed e.told) (and_left (not (is_committed e.told)) (list_all (λ (o : ReportEntry). not (is_committed o.told)) es) h)) t)
    (others_run es stage.Others (front ++ e ∷ []) refl (and_right (not (is_committed e.told)) (list_all (λ (o : ReportEntry). not (is_committed o.told)) es) h))

pub no_reads : (reads : List ToldRead) → (length reads == 0) ≡ true → reads ≡ []
no_reads [] h = refl
no_reads (x ∷ reads) h = let n : length (x ∷ reads) ≡ 0 = same_number (length (x ∷ reads)) 0 h in absurd (omega arith)

pub answered_runs : (s : Stage) (front : List ReportEntry) (name : List ℕ) (member : ℕ) (reads : List ToldRead) → takes_committed s ≡ true → list_all is_whole_read reads ≡ true
    → run (draft_at s (so front [] [] [])) (told_lines name member (told.Committed true reads)) ≡ Some (draft_at stage.Reads (so (front ++ answered name member reads ∷ []) [] [] []))
answered_runs s front name member reads t h =
    first (lines.Committed name member true) (flat_map read_lines reads) (draft_at s (so front [] [] [])) (draft_at stage.Reads (so (front ++ answered name member [] ∷ []) [] [] [])) (draft_at stage.Reads (so (front ++ answered name member reads ∷ []) [] [] []))
    (step_entry s (so front [] [] []) name member true t) (reads_run reads [] front name member h)

pub unanswered_runs : (s : Stage) (front : List ReportEntry) (name : List ℕ) (member : ℕ) → takes_committed s ≡ true
    → run (draft_at s (so front [] [] [])) (told_lines name member (told.Committed false [])) ≡ Some (draft_at stage.Committed (so (front ++ (record { name = name; member = member; told = told.Committed false [] }) ∷ []) [] [] []))
unanswered_runs s front name member t =
    first (lines.Committed name member false) [] (draft_at s (so front [] [] [])) (draft_at stage.Committed (so (front ++ (record { name = name; member = member; told = told.Committed false [] }) ∷ []) [] [] [])) (draft_at stage.Committed (so (front ++ (record { name = name; member = member; told = told.Committed false [] }) ∷ []) [] [] []))
    (step_entry s (so front [] [] []) name member false t) refl
