-- What one part more does to the lines of a report and to what makes it one.
use Rattle.std.proofs.Common.{◌≡◌, ℕ, zero, suc, ◌+◌, ◌==◌, Bool, true, false, not, ◌&&◌, if◌then◌else◌, List, [], ◌∷◌, ◌++◌, length, map, Some, refl, ap, sym, ◌∙◌, subst, arith, append_assoc}
use Rattle.std.proofs.lemmas.Grind.{common_steps, flat_map-append}
use Rattle.std.proofs.lemmas.Bool.Decides.{nat_tests}
use Rattle.std.proofs.lemmas.List.{map-append}
use Rattle.std.proofs.lemmas.List.Folds.{list_all-append}
use Rattle.std.specs.List.{flat_map, list_all}
use Rattle.ds_base.specs.declared.row.Row.{Row}
use Rattle.ds_model.specs.declared.report.ToldRead.{ToldRead}
use Rattle.ds_model.specs.declared.report.ToldRead.TheVariants as read
use Rattle.ds_model.specs.declared.report.Told.{Told}
use Rattle.ds_model.specs.declared.report.Told.TheVariants as told
use Rattle.ds_model.specs.declared.report.ReportEntry.{ReportEntry}
use Rattle.ds_model.specs.declared.report.CauseLine.{CauseLine}
use Rattle.ds_model.specs.declared.report.EventLine.{EventLine}
use Rattle.ds_model.specs.declared.report.Report.{Report}
use Rattle.report_line.specs.declared.line.ReportLine.{ReportLine}
use Rattle.report_line.specs.declared.line.ReportLine.TheVariants as lines
use Rattle.report_text.specs.Grammar.{read_lines, told_lines, entry_lines, head_lines, is_before, rises_from, is_rising, is_whole_read, is_whole, is_committed, committed_first, are_counted}
use Rattle.report_text.specs.Steps.{told_with, last_with, with_entry, with_read, with_cause, with_event, with_row, may_follow}
use Rattle.report_text.proofs.Bools.{and_left, and_right, and_both}

pub append_nil : {A : Type 0} → (xs : List A) → xs ++ [] ≡ xs
append_nil [] = refl
append_nil (x ∷ xs) = ap (λ rest. x ∷ rest) (append_nil xs)

-- ---- tests of all elements, with one element more

pub all_push : {A : Type 0} → (test : A → Bool) (xs : List A) (x : A) → list_all test xs ≡ true → test x ≡ true → list_all test (xs ++ x ∷ []) ≡ true
all_push test [] x h k = and_both (test x) true k refl
all_push test (a ∷ xs) x h k = and_both (test a) (list_all test (xs ++ x ∷ [])) (and_left (test a) (list_all test xs) h) (all_push test xs x (and_right (test a) (list_all test xs) h) k)

abbrev pub is_whole_entry : ReportEntry → Bool
is_whole_entry e = is_whole e.told

abbrev pub is_committed_entry : ReportEntry → Bool
is_committed_entry e = is_committed e.told

-- ---- entries

pub first_push : (es : List ReportEntry) (e : ReportEntry) → list_all is_committed_entry es ≡ true → committed_first (es ++ e ∷ []) ≡ true
first_push [] e h = elim (is_committed e.told) as (λ b. (if b then true else true) ≡ true) [ true ↦ refl | false ↦ refl ]
first_push (a ∷ es) e h =
    let here = and_left (is_committed a.told) (list_all is_committed_entry es) h in
    let rest = first_push es e (and_right (is_committed a.told) (list_all is_committed_entry es) h) in
    rw here rest

pub first_of_all : (es : List ReportEntry) → list_all is_committed_entry es ≡ true → committed_first es ≡ true
first_of_all [] h = refl
first_of_all (a ∷ es) h =
    let here = and_left (is_committed a.told) (list_all is_committed_entry es) h in
    let rest = first_of_all es (and_right (is_committed a.told) (list_all is_committed_entry es) h) in
    rw here rest

other_push : (b : Bool) (es : List ReportEntry) (e : ReportEntry) → is_committed e.told ≡ false → (committed_first es ≡ true → committed_first (es ++ e ∷ []) ≡ true)
    → (if b then committed_first es else list_all (λ other. not (is_committed other.told)) es) ≡ true
    → (if b then committed_first (es ++ e ∷ []) else list_all (λ other. not (is_committed other.told)) (es ++ e ∷ [])) ≡ true
other_push true es e other ih h = ih h
other_push false es e other ih h = all_push (λ o. not (is_committed o.told)) es e h (ap not other)

pub first_other : (es : List ReportEntry) (e : ReportEntry) → committed_first es ≡ true → is_committed e.told ≡ false → committed_first (es ++ e ∷ []) ≡ true
first_other [] e h other = rw other refl
first_other (a ∷ es) e h other = other_push (is_committed a.told) es e other (λ k. first_other es e k other) h

-- ---- reads of the last entry

abbrev pub is_answered : Told → Bool
is_answered (told.Committed true reads) = true
is_answered (told.Committed false reads) = false
is_answered (told.Refused refusal) = false
is_answered told.Stopped = false

abbrev pub ends_answered : List ReportEntry → Bool
ends_answered [] = false
ends_answered (e ∷ []) = is_answered e.told
ends_answered (e ∷ next ∷ es) = ends_answered (next ∷ es)

pub ends_push : (es : List ReportEntry) (e : ReportEntry) → is_answered e.told ≡ true → ends_answered (es ++ e ∷ []) ≡ true
ends_push [] e h = h
ends_push (a ∷ []) e h = h
ends_push (a ∷ b ∷ es) e h = ends_push (b ∷ es) e h

told_answered : (t : Told) (x : ToldRead) → is_answered t ≡ true → is_answered (told_with t x) ≡ true
told_answered (told.Committed true reads) x h = refl
told_answered (told.Committed false reads) x h = cc
told_answered (told.Refused refusal) x h = cc
told_answered told.Stopped x h = cc

pub ends_with : (es : List ReportEntry) (x : ToldRead) → ends_answered es ≡ true → ends_answered (last_with es x) ≡ true
ends_with [] x h = cc
ends_with (e ∷ []) x h = told_answered e.told x h
ends_with (e ∷ a ∷ []) x h = told_answered a.told x h
ends_with (e ∷ a ∷ b ∷ es) x h = ends_with (a ∷ b ∷ es) x h

told_committed : (t : Told) (x : ToldRead) → is_committed t ≡ true → is_committed (told_with t x) ≡ true
told_committed (told.Committed answered reads) x h = refl
told_committed (told.Refused refusal) x h = h
told_committed told.Stopped x h = h

pub committed_with : (es : List ReportEntry) (x : ToldRead) → list_all is_committed_entry es ≡ true → list_all is_committed_entry (last_with es x) ≡ true
committed_with [] x h = h
committed_with (e ∷ []) x h = and_both (is_committed (told_with e.told x)) true (told_committed e.told x (and_left (is_committed e.told) true h)) refl
committed_with (e ∷ a ∷ es) x h =
    and_both (is_committed e.told) (list_all is_committed_entry (last_with (a ∷ es) x)) (and_left (is_committed e.told) (list_all is_committed_entry (a ∷ es)) h)
    (committed_with (a ∷ es) x (and_right (is_committed e.told) (list_all is_committed_entry (a ∷ es)) h))

told_whole : (t : Told) (x : ToldRead) → is_answered t ≡ true → is_whole t ≡ true → is_whole_read x ≡ true → is_whole (told_with t x) ≡ true
told_whole (told.Committed true reads) x a h k = all_push is_whole_read reads x h k
told_whole (told.Committed false reads) x a h k = cc
told_whole (told.Refused refusal) x a h k = h
told_whole told.Stopped x a h k = h

pub whole_with : (es : List ReportEntry) (x : ToldRead) → ends_answered es ≡ true → list_all is_whole_entry es ≡ true → is_whole_read x ≡ true → list_all is_whole_entry (last_with es x) ≡ true
whole_with [] x a h k = h
whole_with (e ∷ []) x a h k = and_both (is_whole (told_with e.told x)) true (told_whole e.told x a (and_left (is_whole e.told) true h) k) refl
whole_with (e ∷ b ∷ es) x a h k =
    and_both (is_whole e.told) (list_all is_whole_entry (last_with (b ∷ es) x)) (and_left (is_whole e.told) (list_all is_whole_entry (b ∷ es)) h)
    (whole_with (b ∷ es) x a (and_right (is_whole e.told) (list_all is_whole_entry (b ∷ es)) h) k)

told_grows : (name : List ℕ) (member : ℕ) (t : Told) (x : ToldRead) → is_answered t ≡ true → told_lines name member (told_with t x) ≡ told_lines name member t ++ read_lines x
told_grows name member (told.Committed true reads) x h = ap (λ rest. lines.Committed name member true ∷ rest) (flat_map-append read_lines reads (x ∷ []) ∙ ap (λ rest. flat_map read_lines reads ++ rest) (append_nil (read_lines x)))
told_grows name member (told.Committed false reads) x h = cc
told_grows name member (told.Refused refusal) x h = cc
told_grows name member told.Stopped x h = cc

pub entries_with : (es : List ReportEntry) (x : ToldRead) → ends_answered es ≡ true → flat_map entry_lines (last_with es x) ≡ flat_map entry_lines es ++ read_lines x
entries_with [] x h = cc
entries_with (e ∷ []) x h =
    append_nil (told_lines e.name e.member (told_with e.told x)) ∙ told_grows e.name e.member e.told x h
    ∙ ap (λ front. front ++ read_lines x) (sym (append_nil (entry_lines e)))
entries_with (e ∷ a ∷ es) x h =
    ap (λ rest. entry_lines e ++ rest) (entries_with (a ∷ es) x h) ∙ sym (append_assoc (entry_lines e) (flat_map entry_lines (a ∷ es)) (read_lines x))

-- ---- the lines before the rows

splice : (new old tail more : List ReportLine) → tail ≡ [] → new ≡ old ++ more → new ++ tail ≡ (old ++ tail) ++ more
splice new old tail more t e = subst (λ (u : List ReportLine). new ++ u ≡ (old ++ u) ++ more) (sym t) (append_nil new ∙ e ∙ ap (λ o. o ++ more) (sym (append_nil old)))

no_trace : (causes : List CauseLine) (events : List EventLine) → causes ≡ [] → events ≡ [] → map lines.Cause causes ++ map lines.Event events ≡ []
no_trace causes events c e = ap (λ (cs : List CauseLine). map lines.Cause cs ++ map lines.Event events) c ∙ ap (λ (es : List EventLine). map lines.Event es) e

-- where nothing stands behind the entries
pub head_entry : (r : Report) (e : ReportEntry) (l : ReportLine) → r.trace.causes ≡ [] → r.trace.events ≡ [] → entry_lines e ≡ l ∷ [] → head_lines (with_entry r e) ≡ head_lines r ++ l ∷ []
head_entry r e l causes events is =
    ap (λ (rest : List ReportLine). lines.Opening ∷ rest)
    (splice (flat_map entry_lines (r.entries ++ e ∷ [])) (flat_map entry_lines r.entries) (map lines.Cause r.trace.causes ++ map lines.Event r.trace.events) (l ∷ []) (no_trace r.trace.causes r.trace.events causes events)
    (flat_map-append entry_lines r.entries (e ∷ []) ∙ ap (λ (rest : List ReportLine). flat_map entry_lines r.entries ++ rest) (append_nil (entry_lines e) ∙ is)))

pub head_read : (r : Report) (x : ToldRead) → r.trace.causes ≡ [] → r.trace.events ≡ [] → ends_answered r.entries ≡ true → head_lines (with_read r x) ≡ head_lines r ++ read_lines x
head_read r x causes events h =
    ap (λ (rest : List ReportLine). lines.Opening ∷ rest)
    (splice (flat_map entry_lines (last_with r.entries x)) (flat_map entry_lines r.entries) (map lines.Cause r.trace.causes ++ map lines.Event r.trace.events) (read_lines x) (no_trace r.trace.causes r.trace.events causes events)
    (entries_with r.entries x h))

pub head_cause : (r : Report) (c : CauseLine) → r.trace.events ≡ [] → head_lines (with_cause r c) ≡ head_lines r ++ lines.Cause c ∷ []
head_cause r c events =
    ap (λ (rest : List ReportLine). lines.Opening ∷ (flat_map entry_lines r.entries ++ rest))
    (splice (map lines.Cause (r.trace.causes ++ c ∷ [])) (map lines.Cause r.trace.causes) (map lines.Event r.trace.events) (lines.Cause c ∷ []) (ap (λ (es : List EventLine). map lines.Event es) events) (map-append lines.Cause r.trace.causes (c ∷ [])))
    ∙ ap (λ (rest : List ReportLine). lines.Opening ∷ rest) (sym (append_assoc (flat_map entry_lines r.entries) (map lines.Cause r.trace.causes ++ map lines.Event r.trace.events) (lines.Cause c ∷ [])))

pub head_event : (r : Report) (e : EventLine) → head_lines (with_event r e) ≡ head_lines r ++ lines.Event e ∷ []
head_event r e =
    ap (λ (rest : List ReportLine). lines.Opening ∷ (flat_map entry_lines r.entries ++ rest))
    (ap (λ (rest : List ReportLine). map lines.Cause r.trace.causes ++ rest) (map-append lines.Event r.trace.events (e ∷ [])) ∙ sym (append_assoc (map lines.Cause r.trace.causes) (map lines.Event r.trace.events) (lines.Event e ∷ [])))
    ∙ ap (λ (rest : List ReportLine). lines.Opening ∷ rest) (sym (append_assoc (flat_map entry_lines r.entries) (map lines.Cause r.trace.causes ++ map lines.Event r.trace.events) (lines.Event e ∷ [])))

-- ---- rows and events

pub rising_push : (rows : List Row) (row : Row) → is_rising rows ≡ true → may_follow rows row ≡ true → is_rising (rows ++ row ∷ []) ≡ true
rising_push [] row h k = refl
rising_push (a ∷ []) row h k = and_both (is_before a row) true k refl
rising_push (a ∷ b ∷ rows) row h k =
    and_both (is_before a b) (rises_from b (rows ++ row ∷ [])) (and_left (is_before a b) (rises_from b rows) h)
    (rising_push (b ∷ rows) row (and_right (is_before a b) (rises_from b rows) h) k)

pub counted_push : (from : ℕ) (es : List EventLine) (e : EventLine) → are_counted from es ≡ true → e.place ≡ from + length es → are_counted from (es ++ e ∷ []) ≡ true
counted_push from [] e h k = let here : (e.place == from) ≡ true = grind (arith, nat_tests) in and_both (e.place == from) true here refl
counted_push from (a ∷ es) e h k =
    and_both (a.place == from) (are_counted (from + 1) (es ++ e ∷ [])) (and_left (a.place == from) (are_counted (from + 1) es) h)
    (counted_push (from + 1) es e (and_right (a.place == from) (are_counted (from + 1) es) h) (omega arith))
