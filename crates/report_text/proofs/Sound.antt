-- What has been read so far, line by line.
use Rattle.std.proofs.Common.{◌≡◌, ℕ, ◌+◌, ◌==◌, Bool, true, false, ◌&&◌, if◌then◌else◌, nat_lt, List, [], ◌∷◌, ◌++◌, length, map, Option, Some, None, Result, Ok, Err, refl, ap, sym, ◌∙◌, subst, arith, append_assoc}
use Rattle.std.proofs.lemmas.Bool.Decides.{nat_tests}
use Rattle.std.proofs.lemmas.List.{map-append}
use Rattle.std.specs.List.{flat_map, list_all}
use Rattle.ds_base.specs.declared.row.Row.{Row}
use Rattle.ds_model.specs.declared.report.ToldRead.{ToldRead}
use Rattle.ds_model.specs.declared.report.ToldRead.TheVariants as read
use Rattle.ds_model.specs.declared.report.Told.{Told}
use Rattle.ds_model.specs.declared.report.Told.TheVariants as told
use Rattle.ds_model.specs.declared.report.ReportEntry.{ReportEntry}
use Rattle.ds_model.specs.declared.report.CauseLine.{CauseLine}
use Rattle.ds_model.specs.declared.report.EventLine.{EventLine}
use Rattle.ds_model.specs.declared.report.Report.{Report}
use Rattle.report_line.specs.declared.line.ReportLine.{ReportLine}
use Rattle.report_line.specs.declared.line.ReportLine.TheVariants as lines
use Rattle.report_text.specs.declared.draft.Stage.{Stage}
use Rattle.report_text.specs.declared.draft.Stage.TheVariants as stage
use Rattle.report_text.specs.declared.draft.Draft.{Draft}
use Rattle.report_text.specs.Grammar.{scanned_line, read_lines, entry_lines, head_lines, lines_of, is_rising, is_whole, is_whole_read, is_committed, committed_first, are_counted}
use Rattle.report_text.specs.Steps.{takes_committed, takes_others, takes_causes, takes_events, is_start, draft_at, with_entry, with_read, with_cause, with_event, with_row, may_follow, opened, scanning, committed, ended, scanned, read_at, scan_at, caused, happened, counted, row_at, end_at, step, empty_report}
use Rattle.report_text.proofs.Bools.{and_left, and_right, and_both, same_number}
use Rattle.report_text.proofs.Growth.{is_whole_entry, is_committed_entry, all_push, first_push, first_other, first_of_all, ends_answered, ends_push, ends_with, committed_with, whole_with, head_entry, head_read, head_cause, head_event, rising_push, counted_push}

-- ---- the lines read so far, and what holds of them

abbrev pub lines_at : Stage → Report → List ReportLine
lines_at stage.Start r = []
lines_at stage.Committed r = head_lines r
lines_at stage.Reads r = head_lines r
lines_at (stage.Scan table low high count rows) r = head_lines r ++ (lines.Scan table low high count ∷ map scanned_line rows)
lines_at stage.Others r = head_lines r
lines_at stage.Causes r = head_lines r
lines_at stage.Events r = head_lines r
lines_at (stage.Rows count) r = head_lines r ++ (lines.Rows count ∷ map lines.Row r.rows)
lines_at stage.Done r = lines_of r

pub record Base (r : Report) : Type 0 where
  pub whole : list_all is_whole_entry r.entries ≡ true
  pub first : committed_first r.entries ≡ true
  pub counted : are_counted 1 r.trace.events ≡ true
  pub rising : is_rising r.rows ≡ true

pub record Fresh (r : Report) : Type 0 where
  pub committed : list_all is_committed_entry r.entries ≡ true
  pub causes : r.trace.causes ≡ []
  pub events : r.trace.events ≡ []
  pub rows : r.rows ≡ []

pub record Bare (r : Report) : Type 0 where
  pub causes : r.trace.causes ≡ []
  pub events : r.trace.events ≡ []
  pub rows : r.rows ≡ []

pub record Answered (r : Report) : Type 0 where
  pub fresh : Fresh r
  pub ends : ends_answered r.entries ≡ true

pub record Scanning (table : ℕ) (rows : List Row) (r : Report) : Type 0 where
  pub answered : Answered r
  pub of : list_all (λ (row : Row). row.table == table) rows ≡ true
  pub rises : is_rising rows ≡ true

pub record Traced (r : Report) : Type 0 where
  pub events : r.trace.events ≡ []
  pub rows : r.rows ≡ []

abbrev pub Extra : Stage → Report → Type 0
Extra stage.Start r = r ≡ empty_report
Extra stage.Committed r = Fresh r
Extra stage.Reads r = Answered r
Extra (stage.Scan table low high count rows) r = Scanning table rows r
Extra stage.Others r = Bare r
Extra stage.Causes r = Traced r
Extra stage.Events r = r.rows ≡ []
Extra (stage.Rows count) r = Unit {0}
Extra stage.Done r = Unit {0}

pub record Good (s : Stage) (r : Report) : Type 0 where
  pub base : Base r
  pub extra : Extra s r

pub record Grown (s : Stage) (r : Report) (l : ReportLine) (d : Draft) : Type 0 where
  pub good : Good d.stage d.report
  pub more : lines_at d.stage d.report ≡ lines_at s r ++ l ∷ []

abbrev pub Grows : Stage → Report → ReportLine → Option Draft → Type 0
Grows s r l None = Unit {0}
Grows s r l (Some d) = Grown s r l d

grows_if : (s : Stage) (r : Report) (l : ReportLine) (b : Bool) (d : Draft) → (b ≡ true → Grown s r l d) → Grows s r l (if b then Some d else None)
grows_if s r l true d f = f refl
grows_if s r l false d f = tt

-- ---- what a stage says

fresh_bare : (r : Report) → Fresh r → Bare r
fresh_bare r f = record { causes = f.causes; events = f.events; rows = f.rows }

fresh_of : (s : Stage) (r : Report) → takes_committed s ≡ true → Extra s r → Fresh r
fresh_of stage.Committed r t x = x
fresh_of stage.Reads r t x = x.fresh
fresh_of s r t x = absurd (cc)

bare_of : (s : Stage) (r : Report) → takes_others s ≡ true → Extra s r → Bare r
bare_of stage.Committed r t x = fresh_bare r x
bare_of stage.Reads r t x = fresh_bare r x.fresh
bare_of stage.Others r t x = x
bare_of s r t x = absurd (cc)

traced_of : (s : Stage) (r : Report) → takes_causes s ≡ true → Extra s r → Traced r
traced_of stage.Committed r t x = record { events = x.events; rows = x.rows }
traced_of stage.Reads r t x = record { events = x.fresh.events; rows = x.fresh.rows }
traced_of stage.Others r t x = record { events = x.events; rows = x.rows }
traced_of stage.Causes r t x = x
traced_of s r t x = absurd (cc)

rowless_of : (s : Stage) (r : Report) → takes_events s ≡ true → Extra s r → r.rows ≡ []
rowless_of stage.Committed r t x = x.rows
rowless_of stage.Reads r t x = x.fresh.rows
rowless_of stage.Others r t x = x.rows
rowless_of stage.Causes r t x = x.rows
rowless_of stage.Events r t x = x
rowless_of s r t x = absurd (cc)

at_head : (s : Stage) (r : Report) → takes_events s ≡ true → lines_at s r ≡ head_lines r
at_head stage.Committed r t = refl
at_head stage.Reads r t = refl
at_head stage.Others r t = refl
at_head stage.Causes r t = refl
at_head stage.Events r t = refl
at_head s r t = absurd (cc)

pub others_too : (s : Stage) → takes_committed s ≡ true → takes_others s ≡ true
others_too stage.Committed t = refl
others_too stage.Reads t = refl
others_too s t = absurd (cc)

pub causes_too : (s : Stage) → takes_others s ≡ true → takes_causes s ≡ true
causes_too stage.Committed t = refl
causes_too stage.Reads t = refl
causes_too stage.Others t = refl
causes_too s t = absurd (cc)

pub events_too : (s : Stage) → takes_causes s ≡ true → takes_events s ≡ true
events_too stage.Committed t = refl
events_too stage.Reads t = refl
events_too stage.Others t = refl
events_too stage.Causes t = refl
events_too s t = absurd (cc)

-- ---- the opening

empty_of : (s : Stage) (r : Report) → is_start s ≡ true → Extra s r → r ≡ empty_report
empty_of stage.Start r t x = x
empty_of s r t x = absurd (cc)

no_lines : (s : Stage) (r : Report) → is_start s ≡ true → lines_at s r ≡ []
no_lines stage.Start r t = refl
no_lines s r t = absurd (cc)

fresh_empty : Fresh empty_report
fresh_empty = record { committed = refl; causes = refl; events = refl; rows = refl }

grows_opening : (s : Stage) (r : Report) → Good s r → Grows s r lines.Opening (opened (draft_at s r))
grows_opening s r g = grows_if s r lines.Opening (is_start s) (draft_at stage.Committed r) (λ t.
    let e = empty_of s r t g.extra in
    record {
      good = record { base = g.base; extra = subst Fresh (sym e) fresh_empty };
      more = subst (λ (q : Report). head_lines q ≡ lines.Opening ∷ []) (sym e) refl ∙ ap (λ (front : List ReportLine). front ++ lines.Opening ∷ []) (sym (no_lines s r t));
    })

-- ---- entries

push_front : (s : Stage) (r : Report) (l : ReportLine) (new : List ReportLine) → takes_events s ≡ true → new ≡ head_lines r ++ l ∷ [] → new ≡ lines_at s r ++ l ∷ []
push_front s r l new t e = e ∙ ap (λ (front : List ReportLine). front ++ l ∷ []) (sym (at_head s r t))

grows_committed : (s : Stage) (r : Report) (name : List ℕ) (member : ℕ) (answered : Bool) → Good s r → Grows s r (lines.Committed name member answered) (committed (draft_at s r) name member answered)
grows_committed s r name member true g =
    let e : ReportEntry = record { name = name; member = member; told = told.Committed true [] } in
    grows_if s r (lines.Committed name member true) (takes_committed s) (draft_at stage.Reads (with_entry r e)) (λ t.
    let f = fresh_of s r t g.extra in
    record {
      good = record {
        base = record { whole = all_push is_whole_entry r.entries e g.base.whole refl; first = first_push r.entries e f.committed; counted = g.base.counted; rising = g.base.rising };
        extra = record { fresh = record { committed = all_push is_committed_entry r.entries e f.committed refl; causes = f.causes; events = f.events; rows = f.rows }; ends = ends_push r.entries e refl };
      };
      more = push_front s r (lines.Committed name member true) (head_lines (with_entry r e)) (events_too s (causes_too s (others_too s t))) (head_entry r e (lines.Committed name member true) f.causes f.events refl);
    })
grows_committed s r name member false g =
    let e : ReportEntry = record { name = name; member = member; told = told.Committed false [] } in
    grows_if s r (lines.Committed name member false) (takes_committed s) (draft_at stage.Committed (with_entry r e)) (λ t.
    let f = fresh_of s r t g.extra in
    record {
      good = record {
        base = record { whole = all_push is_whole_entry r.entries e g.base.whole refl; first = first_push r.entries e f.committed; counted = g.base.counted; rising = g.base.rising };
        extra = record { committed = all_push is_committed_entry r.entries e f.committed refl; causes = f.causes; events = f.events; rows = f.rows };
      };
      more = push_front s r (lines.Committed name member false) (head_lines (with_entry r e)) (events_too s (causes_too s (others_too s t))) (head_entry r e (lines.Committed name member false) f.causes f.events refl);
    })

grows_ended : (s : Stage) (r : Report) (name : List ℕ) (member : ℕ) (fate : Told) (l : ReportLine) → is_committed fate ≡ false → is_whole fate ≡ true → entry_lines (record { name = name; member = member; told = fate }) ≡ l ∷ [] → Good s r → Grows s r l (ended (draft_at s r) name member fate)
grows_ended s r name member fate l other whole is g =
    let e : ReportEntry = record { name = name; member = member; told = fate } in
    grows_if s r l (takes_others s) (draft_at stage.Others (with_entry r e)) (λ t.
    let f = bare_of s r t g.extra in
    record {
      good = record {
        base = record { whole = all_push is_whole_entry r.entries e g.base.whole whole; first = first_other r.entries e g.base.first other; counted = g.base.counted; rising = g.base.rising };
        extra = record { causes = f.causes; events = f.events; rows = f.rows };
      };
      more = push_front s r l (head_lines (with_entry r e)) (events_too s (causes_too s t)) (head_entry r e l f.causes f.events is);
    })

-- ---- reads

with_read_good : (r : Report) (x : ToldRead) → Base r → Answered r → is_whole_read x ≡ true → Good stage.Reads (with_read r x)
with_read_good r x b a k =
    let all = committed_with r.entries x a.fresh.committed in
    record {
      base = record { whole = whole_with r.entries x a.ends b.whole k; first = first_of_all (with_read r x).entries all; counted = b.counted; rising = b.rising };
      extra = record { fresh = record { committed = all; causes = a.fresh.causes; events = a.fresh.events; rows = a.fresh.rows }; ends = ends_with r.entries x a.ends };
    }

record Scans (r : Report) (table low high count : ℕ) (rows : List Row) (d : Draft) : Type 0 where
  pub good : Good d.stage d.report
  pub is : lines_at d.stage d.report ≡ head_lines r ++ (lines.Scan table low high count ∷ map scanned_line rows)

scanning_by : (b : Bool) (r : Report) (table low high count : ℕ) (rows : List Row) → (length rows == count) ≡ b → Base r → Scanning table rows r
    → Scans r table low high count rows (if b then draft_at stage.Reads (with_read r (read.Scan table low high rows)) else draft_at (stage.Scan table low high count rows) r)
scanning_by true r table low high count rows e b k =
    record {
      good = with_read_good r (read.Scan table low high rows) b k.answered (and_both (list_all (λ (row : Row). row.table == table) rows) (is_rising rows) k.of k.rises);
      is = head_read r (read.Scan table low high rows) k.answered.fresh.causes k.answered.fresh.events k.answered.ends
          ∙ ap (λ (n : ℕ). head_lines r ++ (lines.Scan table low high n ∷ map scanned_line rows)) (same_number (length rows) count e);
    }
scanning_by false r table low high count rows e b k = record { good = record { base = b; extra = k }; is = refl }

scanning_is : (r : Report) (table low high count : ℕ) (rows : List Row) → Base r → Scanning table rows r → Scans r table low high count rows (scanning r table low high count rows)
scanning_is r table low high count rows b k = scanning_by (length rows == count) r table low high count rows refl b k

grows_scanned : (r : Report) (table low high count : ℕ) (rows : List Row) (row : Row) → Good (stage.Scan table low high count rows) r → Grows (stage.Scan table low high count rows) r (scanned_line row) (scanned r table low high count rows row)
grows_scanned r table low high count rows row g =
    grows_if (stage.Scan table low high count rows) r (scanned_line row) ((row.table == table) && may_follow rows row) (scanning r table low high count (rows ++ row ∷ [])) (λ t.
    let k : Scanning table (rows ++ row ∷ []) r = record {
      answered = g.extra.answered;
      of = all_push (λ (w : Row). w.table == table) rows row g.extra.of (and_left (row.table == table) (may_follow rows row) t);
      rises = rising_push rows row g.extra.rises (and_right (row.table == table) (may_follow rows row) t);
    } in
    let s = scanning_is r table low high count (rows ++ row ∷ []) g.base k in
    record {
      good = s.good;
      more = s.is ∙ ap (λ (rest : List ReportLine). head_lines r ++ (lines.Scan table low high count ∷ rest)) (map-append scanned_line rows (row ∷ []))
          ∙ sym (append_assoc (head_lines r) (lines.Scan table low high count ∷ map scanned_line rows) (scanned_line row ∷ []));
    })

grows_read : (s : Stage) (r : Report) (table key : ℕ) (value : Option (List ℕ)) → Good s r → Grows s r (lines.Read table key value) (read_at r s table key value)
grows_read stage.Reads r table key value g = record {
  good = with_read_good r (read.Get table key value) g.base g.extra refl;
  more = head_read r (read.Get table key value) g.extra.fresh.causes g.extra.fresh.events g.extra.ends;
}
grows_read (stage.Scan of low high count rows) r table key (Some value) g = grows_scanned r of low high count rows (record { table = table; key = key; value = value }) g
grows_read s r table key value g = tt

grows_scan : (s : Stage) (r : Report) (table low high count : ℕ) → Good s r → Grows s r (lines.Scan table low high count) (scan_at r s table low high count)
grows_scan stage.Reads r table low high count g =
    let s = scanning_is r table low high count [] g.base (record { answered = g.extra; of = refl; rises = refl }) in
    record { good = s.good; more = s.is }
grows_scan s r table low high count g = tt

-- ---- the trace

grows_caused : (s : Stage) (r : Report) (c : CauseLine) → Good s r → Grows s r (lines.Cause c) (caused (draft_at s r) c)
grows_caused s r c g = grows_if s r (lines.Cause c) (takes_causes s) (draft_at stage.Causes (with_cause r c)) (λ t.
    let f = traced_of s r t g.extra in
    record {
      good = record { base = record { whole = g.base.whole; first = g.base.first; counted = g.base.counted; rising = g.base.rising }; extra = record { events = f.events; rows = f.rows } };
      more = push_front s r (lines.Cause c) (head_lines (with_cause r c)) (events_too s t) (head_cause r c f.events);
    })

grows_happened : (s : Stage) (r : Report) (e : EventLine) → Good s r → Grows s r (lines.Event e) (happened (draft_at s r) e)
grows_happened s r e g = grows_if s r (lines.Event e) (takes_events s && (e.place == length r.trace.events + 1)) (draft_at stage.Events (with_event r e)) (λ t.
    let takes = and_left (takes_events s) (e.place == length r.trace.events + 1) t in
    let place = same_number e.place (length r.trace.events + 1) (and_right (takes_events s) (e.place == length r.trace.events + 1) t) in
    record {
      good = record { base = record { whole = g.base.whole; first = g.base.first; counted = counted_push 1 r.trace.events e g.base.counted (omega arith); rising = g.base.rising }; extra = rowless_of s r takes g.extra };
      more = push_front s r (lines.Event e) (head_lines (with_event r e)) takes (head_event r e);
    })

-- ---- the rows and the end

grows_counted : (s : Stage) (r : Report) (count : ℕ) → Good s r → Grows s r (lines.Rows count) (counted (draft_at s r) count)
grows_counted s r count g = grows_if s r (lines.Rows count) (takes_events s) (draft_at (stage.Rows count) r) (λ t. record {
  good = record { base = g.base; extra = tt };
  more = push_front s r (lines.Rows count) (head_lines r ++ (lines.Rows count ∷ map lines.Row r.rows)) t (ap (λ (rows : List Row). head_lines r ++ (lines.Rows count ∷ map lines.Row rows)) (rowless_of s r t g.extra));
})

grows_row : (s : Stage) (r : Report) (row : Row) → Good s r → Grows s r (lines.Row row) (row_at r s row)
grows_row (stage.Rows count) r row g = grows_if (stage.Rows count) r (lines.Row row) (nat_lt (length r.rows) count && may_follow r.rows row) (draft_at (stage.Rows count) (with_row r row)) (λ t. record {
  good = record { base = record { whole = g.base.whole; first = g.base.first; counted = g.base.counted; rising = rising_push r.rows row g.base.rising (and_right (nat_lt (length r.rows) count) (may_follow r.rows row) t) }; extra = tt };
  more = ap (λ (rest : List ReportLine). head_lines r ++ (lines.Rows count ∷ rest)) (map-append lines.Row r.rows (row ∷ [])) ∙ sym (append_assoc (head_lines r) (lines.Rows count ∷ map lines.Row r.rows) (lines.Row row ∷ []));
})
grows_row s r row g = tt

grows_end : (s : Stage) (r : Report) (status : ℕ) → Good s r → Grows s r (lines.End status) (end_at r s status)
grows_end (stage.Rows count) r status g = grows_if (stage.Rows count) r (lines.End status) (length r.rows == count) (draft_at stage.Done (record r { status = status })) (λ t. record {
  good = record { base = record { whole = g.base.whole; first = g.base.first; counted = g.base.counted; rising = g.base.rising }; extra = tt };
  more = ap (λ (n : ℕ). head_lines r ++ (lines.Rows n ∷ (map lines.Row r.rows ++ lines.End status ∷ []))) (same_number (length r.rows) count t)
      ∙ sym (append_assoc (head_lines r) (lines.Rows count ∷ map lines.Row r.rows) (lines.End status ∷ []));
})
grows_end s r status g = tt

pub grows : (s : Stage) (r : Report) (l : ReportLine) → Good s r → Grows s r l (step (draft_at s r) l)
unfolding step
grows s r lines.Opening g = grows_opening s r g
grows s r (lines.Committed name member answered) g = grows_committed s r name member answered g
grows s r (lines.Refused name member refusal) g = grows_ended s r name member (told.Refused refusal) (lines.Refused name member refusal) refl refl refl g
grows s r (lines.Stopped name member) g = grows_ended s r name member told.Stopped (lines.Stopped name member) refl refl refl g
grows s r (lines.Read table key value) g = grows_read s r table key value g
grows s r (lines.Scan table low high count) g = grows_scan s r table low high count g
grows s r (lines.Cause c) g = grows_caused s r c g
grows s r (lines.Event e) g = grows_happened s r e g
grows s r (lines.Rows count) g = grows_counted s r count g
grows s r (lines.Row row) g = grows_row s r row g
grows s r (lines.End status) g = grows_end s r status g
