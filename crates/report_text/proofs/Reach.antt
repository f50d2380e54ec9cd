-- Whatever is read is spelled so, and is a report.
use Rattle.std.proofs.Common.{◌≡◌, ℕ, zero, suc, ◌==◌, Bool, true, false, ◌&&◌, if◌then◌else◌, List, [], ◌∷◌, ◌++◌, length, Option, Some, None, Result, Ok, Err, IfOk, refl, ap, sym, ◌∙◌, subst, arith, append_assoc}
use Rattle.std.proofs.lemmas.Bool.Decides.{nat_tests}
use Rattle.std.proofs.lemmas.Grind.{flat_map-append}
use Rattle.std.proofs.lemmas.List.Splits.{join_with_byte-slice_split}
use Rattle.std.specs.List.{flat_map, list_all, join_with_byte}
use Rattle.std.specs.Str.{bytes_eq}
use Rattle.ds_model.specs.declared.report.Report.{Report}
use Rattle.ds_model.specs.ScriptText.{line}
use Rattle.ds_model.specs.ReportText.{report_text}
use Rattle.report_line.specs.declared.line.ReportLine.{ReportLine}
use Rattle.report_line.specs.Lines.{is_line, line_text}
use Rattle.report_line.specs.Reading.{kept, is_spelled, line_said, line_in}
use Rattle.report_text.specs.declared.draft.Stage.{Stage}
use Rattle.report_text.specs.declared.draft.Stage.TheVariants as stage
use Rattle.report_text.specs.declared.draft.Draft.{Draft}
use Rattle.report_text.specs.declared.error.ReportError.{ReportError}
use Rattle.report_text.specs.Grammar.{lines_of, is_rising, is_whole, committed_first, are_counted, is_report}
use Rattle.report_text.specs.Steps.{draft_at, step, step_if, step_text, is_done, next_number, finished, report_then, report_from, report_of, empty_report, lines_in, Gives}
use Rattle.report_text.proofs.Bools.{and_left, and_right, and_both, same_number, same_bytes}
use Rattle.report_text.proofs.Growth.{append_nil, all_push, is_whole_entry}
use Rattle.report_text.proofs.Spelling.{spelled}
use Rattle.report_text.proofs.Sound.{lines_at, Base, Good, Grows, grows}

-- ---- one line

kept_test : (b : Bool) (a l : ReportLine) → kept b a ≡ Some l → b ≡ true
kept_test true a l e = refl
kept_test false a l e = cc

kept_is : (b : Bool) (a l : ReportLine) → kept b a ≡ Some l → a ≡ l
kept_is true a l e = cc
kept_is false a l e = cc

line_spelled : (text : List ℕ) (l : ReportLine) → line_in text ≡ Some l → line_text l ≡ text ++ 10 ∷ []
unfolding line_in
line_spelled text l e =
    let said = line_said text in
    let both = kept_test (is_line said && is_spelled said text) said l e in
    ap line_text (sym (kept_is (is_line said && is_spelled said text) said l e)) ∙ same_bytes (line_text said) (line text) (and_right (is_line said) (is_spelled said text) both)

line_is : (text : List ℕ) (l : ReportLine) → line_in text ≡ Some l → is_line l ≡ true
unfolding line_in
line_is text l e =
    let said = line_said text in
    let both = kept_test (is_line said && is_spelled said text) said l e in
    ap is_line (sym (kept_is (is_line said && is_spelled said text) said l e)) ∙ and_left (is_line said) (is_spelled said text) both

-- ---- all lines

abbrev Read : Report → Stage → Report → List ℕ → Type 0
Read r s so_far rest = (flat_map line_text (lines_at s so_far) ++ rest ≡ report_text r) × (is_report r ≡ true)

regroup : (front text rest : List ℕ) → front ++ (text ++ (10 ∷ rest)) ≡ (front ++ ((text ++ 10 ∷ []) ++ [])) ++ rest
regroup front text rest =
    ap (λ (more : List ℕ). front ++ more) (sym (append_assoc text (10 ∷ []) rest)) ∙ sym (append_assoc front (text ++ 10 ∷ []) rest)
    ∙ ap (λ (more : List ℕ). (front ++ more) ++ rest) (sym (append_nil (text ++ 10 ∷ [])))

over : (n : ℕ) (s : Stage) (so_far r : Report) (l : ReportLine) (text rest : List ℕ) (go : Draft → Result Report ℕ) (found : Option Draft)
    → Grows s so_far l found → line_text l ≡ text ++ 10 ∷ [] → is_line l ≡ true → list_all is_line (lines_at s so_far) ≡ true → report_then n found go ≡ Ok r
    → ((d : Draft) → Good d.stage d.report → list_all is_line (lines_at d.stage d.report) ≡ true → go d ≡ Ok r → Read r d.stage d.report rest)
    → Read r s so_far (text ++ (10 ∷ rest))
over n s so_far r l text rest go None g spell is all e on = cc
over n s so_far r l text rest go (Some d) g spell is all e on =
    let later = on d g.good (subst (λ (ls : List ReportLine). list_all is_line ls ≡ true) (sym g.more) (all_push is_line (lines_at s so_far) l all is)) e in
    let front = flat_map line_text (lines_at s so_far) in
    let joined : flat_map line_text (lines_at d.stage d.report) ≡ front ++ ((text ++ 10 ∷ []) ++ []) =
    ap (λ (ls : List ReportLine). flat_map line_text ls) g.more ∙ flat_map-append line_text (lines_at s so_far) (l ∷ []) ∙ ap (λ (t : List ℕ). front ++ (t ++ [])) spell in
    (regroup front text rest ∙ ap (λ (t : List ℕ). t ++ rest) (sym joined) ∙ later.0, later.1)

through : (n : ℕ) (s : Stage) (so_far r : Report) (text rest : List ℕ) (go : Draft → Result Report ℕ) (found : Option ReportLine) → line_in text ≡ found
    → Good s so_far → list_all is_line (lines_at s so_far) ≡ true → report_then n (step_if (draft_at s so_far) found) go ≡ Ok r
    → ((d : Draft) → Good d.stage d.report → list_all is_line (lines_at d.stage d.report) ≡ true → go d ≡ Ok r → Read r d.stage d.report rest)
    → Read r s so_far (text ++ (10 ∷ rest))
through n s so_far r text rest go None is g all e on = cc
through n s so_far r text rest go (Some l) is g all e on =
    over n s so_far r l text rest go (step (draft_at s so_far) l) (grows s so_far l g) (line_spelled text l is) (line_is text l is) all e on

-- ---- the end

ok_test : (b : Bool) (n : ℕ) (x r : Report) → (if b then Ok x else Err n) ≡ Ok r → b ≡ true
ok_test true n x r e = refl
ok_test false n x r e = cc

ok_is : (b : Bool) (n : ℕ) (x r : Report) → (if b then Ok x else Err n) ≡ Ok r → x ≡ r
ok_is true n x r e = cc
ok_is false n x r e = cc

nothing : (last : List ℕ) → (length last == 0) ≡ true → last ≡ []
nothing [] e = refl
nothing (b ∷ last) e = let n : length (b ∷ last) ≡ 0 = same_number (length (b ∷ last)) 0 e in absurd (omega arith)

done_lines : (s : Stage) (r : Report) → is_done s ≡ true → lines_at s r ≡ lines_of r
done_lines stage.Done r t = refl
done_lines s r t = absurd (cc)

whole_report : (r : Report) → Base r → list_all is_line (lines_of r) ≡ true → is_report r ≡ true
whole_report r b all =
    let rows = and_both (is_rising r.rows) (are_counted 1 r.trace.events) b.rising b.counted in
    let entries = and_both (list_all is_whole_entry r.entries) (is_rising r.rows && are_counted 1 r.trace.events) b.whole rows in
    let order = and_both (committed_first r.entries) (list_all is_whole_entry r.entries && (is_rising r.rows && are_counted 1 r.trace.events)) b.first entries in
    and_both (list_all is_line (lines_of r)) (committed_first r.entries && (list_all is_whole_entry r.entries && (is_rising r.rows && are_counted 1 r.trace.events))) all order

closed : (n : ℕ) (s : Stage) (so_far r : Report) (last : List ℕ) → Good s so_far → list_all is_line (lines_at s so_far) ≡ true → finished n (draft_at s so_far) last ≡ Ok r → Read r s so_far last
closed n s so_far r last g all e =
    let both = ok_test ((length last == 0) && is_done s) n so_far r e in
    let same = ok_is ((length last == 0) && is_done s) n so_far r e in
    let done = done_lines s so_far (and_right (length last == 0) (is_done s) both) in
    let empty = nothing last (and_left (length last == 0) (is_done s) both) in
    let front = flat_map line_text (lines_at s so_far) in (
      ap (λ (t : List ℕ). front ++ t) empty ∙ append_nil front ∙ ap (λ (ls : List ReportLine). flat_map line_text ls) done ∙ spelled so_far ∙ ap report_text same,
      subst (λ (q : Report). is_report q ≡ true) same (whole_report so_far g.base (subst (λ (ls : List ReportLine). list_all is_line ls ≡ true) done all)),
    )

reaches : (parts : List (List ℕ)) (n : ℕ) (s : Stage) (so_far r : Report) → Good s so_far → list_all is_line (lines_at s so_far) ≡ true → report_from n (draft_at s so_far) parts ≡ Ok r → Read r s so_far (join_with_byte 10 parts)
reaches [] n s so_far r g all e = cc
reaches (last ∷ []) n s so_far r g all e = closed n s so_far r last g all e
reaches (text ∷ next ∷ texts) n s so_far r g all e =
    through n s so_far r text (join_with_byte 10 (next ∷ texts)) (λ later. report_from (next_number n) later (next ∷ texts)) (line_in text) refl g all e
    (λ d good ok is. reaches (next ∷ texts) (next_number n) d.stage d.report r good ok is)

start_good : Good stage.Start empty_report
start_good = record { base = record { whole = refl; first = refl; counted = refl; rising = refl }; extra = refl }

pub read_is_spelled : (bytes : List ℕ) (r : Report) → report_of bytes ≡ Ok r → (bytes ≡ report_text r) × (is_report r ≡ true)
unfolding report_of
read_is_spelled bytes r e =
    let all = reaches (lines_in bytes) 1 stage.Start empty_report r start_good refl e in
    (sym (join_with_byte-slice_split 10 bytes) ∙ all.0, all.1)

pub found_of : (result : Result Report ReportError) (bytes : List ℕ) → Gives result (report_of bytes) → IfOk result (λ (r : Report). (bytes ≡ report_text r) × (is_report r ≡ true))
found_of (Ok r) bytes g = read_is_spelled bytes r g
found_of (Err e) bytes g = tt
