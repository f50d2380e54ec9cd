-- The transactions of a run, its waits and the pages that went from member to member, as its trace tells them.
--
-- A trace names no transaction. But a seat has one at a time: it begins at the first `none` while the seat is free, and has all events of
-- the seat up to its `end`, or up to its member's failure.
use Rattle.std.specs.Prelude.{ℕ, zero, suc, ◌==◌, max, Bool, ◌&&◌, if◌then◌else◌, nat_lt, nat_le, List, [], ◌∷◌, ◌++◌, length, Option, Some, None, slice_get, slice_set}
use Rattle.std.specs.List.{fold}
use Rattle.ds_model.specs.declared.report.EventLine.{EventLine}
use Rattle.run_spans.specs.declared.deed.Deed.{Deed}
use Rattle.run_spans.specs.declared.latest.At.{At}
use Rattle.run_spans.specs.declared.span.End.{End}
use Rattle.run_spans.specs.declared.span.End.TheVariants as ends
use Rattle.run_spans.specs.declared.span.Span.{Span}
use Rattle.run_spans.specs.declared.span.Wait.{Wait}
use Rattle.run_spans.specs.declared.span.Passage.{Passage}
use Rattle.run_spans.specs.Deeds.{deed_of, is_nothing, is_draw, is_append, is_wait, is_unwait, is_end, is_fail, is_write, is_read, ends_wait, rings}
use Rattle.run_spans.specs.LatestEvents.{none, never, with_event}
use Rattle.run_spans.specs.Holders.{nobody, with_holder}
use Rattle.run_spans.specs.Places.{nowhere, with_place}

-- what is known of a run behind some of its events
pub record Known : Type 0 where
  -- the transactions in the order of their first events, and the numbers of those that drew a commit, in the order in which they did
  pub spans : List Span
  pub commits : List ℕ
  pub waits : List Wait
  pub pages : List Passage
  -- the number of the transaction that has a member's seat
  pub holder : ℕ → ℕ → Option ℕ
  -- the latest event that let others go on, and the latest write of a page, but for those of this member and choice
  pub rung : ℕ → ℕ → At
  pub written : ℕ → ℕ → At
  -- the places of a member's latest append to its log, and of the latest write that has reached it
  pub appended : ℕ → ℕ
  pub reached : ℕ → ℕ

unfoldable pub start : Known
start = record { spans = []; commits = []; waits = []; pages = []; holder = nobody; rung = never; written = never; appended = nowhere; reached = nowhere }

abbrev pub at_of : EventLine → At
at_of e = record { place = e.place; member = e.member; choice = e.choice }

-- ---- one transaction

abbrev pub begun : At → Span
begun at = record { member = at.member; choice = at.choice; first = at.place; last = at.place; commit = 0; end = ends.Open; waits_from = 0; rung = none }

-- how a transaction ends that comes to its end by itself
abbrev pub end_of : ℕ → End
end_of commit = if nat_lt 0 commit then ends.Committed else ends.Ended

-- a wait begins, or it goes on to wait
abbrev pub waiting : ℕ → At → Span → Span
waiting place rung s = if s.waits_from == 0 then record s { waits_from = place } else record s { rung = rung }

-- a commit is drawn
abbrev pub drawing : ℕ → Span → Span
drawing place s = if s.commit == 0 then record s { commit = place } else s

-- by what was done in an event of its own, before which others last let it go on at `rung`
unfoldable pub changed : Deed → ℕ → At → Span → Span
changed d place rung s =
    if is_draw d then drawing place s
    else if is_wait d then waiting place rung s
    else if is_unwait d then record s { waits_from = 0 }
    else if is_end d then record s { waits_from = 0; end = end_of s.commit }
    else record s { rung = rung }

-- it has gone on to a place
abbrev pub reaching : ℕ → Span → Span
reaching place s = record s { last = max s.last place }

-- one whose member fails: committed, if its commit was in the log by then
abbrev pub end_by_failure : ℕ → ℕ → End
end_by_failure commit appended = if nat_lt 0 commit && nat_lt commit appended then ends.Committed else ends.Failed

unfoldable pub failed : ℕ → ℕ → Span → Span
failed place appended s = reaching place (record s { waits_from = 0; end = end_by_failure s.commit appended })

abbrev pub wait_of : ℕ → Span → ℕ → Wait
wait_of number s to = record { span = number; member = s.member; from = s.waits_from; to = max to s.waits_from; rung = s.rung }

unfoldable pub waits_in : ℕ → Span → ℕ → List Wait
waits_in number s to = if s.waits_from == 0 then [] else wait_of number s to ∷ []

-- ---- what an event of a seat does

abbrev pub is_seat : At → Bool
is_seat at = nat_lt 0 at.member && (nat_le 1 at.choice && nat_le at.choice 16)

unfoldable pub with_begun : At → Known → Known
with_begun at k = record k { spans = k.spans ++ begun at ∷ []; holder = with_holder at.member at.choice (Some (length k.spans)) k.holder }

abbrev pub waits_behind : Deed → ℕ → ℕ → Span → List Wait → List Wait
waits_behind d place number s waits = if ends_wait d then waits ++ waits_in number s place else waits

abbrev pub commits_behind : Deed → ℕ → Span → List ℕ → List ℕ
commits_behind d number s commits = if is_draw d && (s.commit == 0) then commits ++ number ∷ [] else commits

abbrev pub holder_behind : Deed → At → (ℕ → ℕ → Option ℕ) → ℕ → ℕ → Option ℕ
holder_behind d at holder = if is_end d then with_holder at.member at.choice None holder else holder

-- the transaction of this number goes on
unfoldable pub gone_on : Deed → At → ℕ → Span → Known → Known
gone_on d at number s k = record k {
  spans = slice_set k.spans number (reaching at.place (changed d at.place (k.rung at.member at.choice) s));
  commits = commits_behind d number s k.commits;
  waits = waits_behind d at.place number s k.waits;
  holder = holder_behind d at k.holder;
}

abbrev pub gone_on_if : Deed → At → ℕ → Option Span → Known → Known
gone_on_if d at number None k = k
gone_on_if d at number (Some s) k = gone_on d at number s k

abbrev pub begun_if : Deed → At → Known → Known
begun_if d at k = if is_nothing d then with_begun at k else k

abbrev pub seat_moved_by : Option ℕ → Deed → At → Known → Known
seat_moved_by None d at k = begun_if d at k
seat_moved_by (Some number) d at k = gone_on_if d at number (slice_get k.spans number) k

-- the seat's transaction goes on; where it has none, one begins
unfoldable pub seat_moved : Deed → At → Known → Known
seat_moved d at k = seat_moved_by (k.holder at.member at.choice) d at k

-- ---- what a member's failure does

unfoldable pub span_failed : At → ℕ → ℕ → Span → Known → Known
span_failed at choice number s k = record k {
  spans = slice_set k.spans number (failed at.place (k.appended at.member) s);
  waits = k.waits ++ waits_in number s at.place;
  holder = with_holder at.member choice None k.holder;
}

abbrev pub span_failed_if : At → ℕ → ℕ → Option Span → Known → Known
span_failed_if at choice number None k = k
span_failed_if at choice number (Some s) k = span_failed at choice number s k

abbrev pub seat_failed_by : Option ℕ → At → ℕ → Known → Known
seat_failed_by None at choice k = k
seat_failed_by (Some number) at choice k = span_failed_if at choice number (slice_get k.spans number) k

unfoldable pub seat_failed : At → ℕ → Known → Known
seat_failed at choice k = seat_failed_by (k.holder at.member choice) at choice k

-- the transactions of its seats from 1 to this one end, in this order
unfoldable pub seats_failed : At → ℕ → Known → Known
seats_failed at zero k = k
seats_failed at (suc choice) k = seat_failed at (suc choice) (seats_failed at choice k)

-- ---- what an event tells of pages, and of what comes later

abbrev pub passage : At → At → Passage
passage from to = record { write = from; read = to }

-- what a member finds in the cache may be what another one has written last
unfoldable pub found : At → Known → Known
found at k =
    if nat_le (k.written at.member 0).place (k.reached at.member) then k
    else record k { pages = k.pages ++ passage (k.written at.member 0) at ∷ []; reached = with_place at.member (k.written at.member 0).place k.reached }

abbrev pub found_if : Deed → At → Known → Known
found_if d at k = if is_read d then found at k else k

-- a write is its member's, by whichever choice
abbrev pub of_member : At → At
of_member at = record at { choice = 0 }

abbrev pub appended_by : Deed → At → (ℕ → ℕ) → ℕ → ℕ
appended_by d at appended = if is_append d then with_place at.member at.place appended else appended

abbrev pub written_by : Deed → At → (ℕ → ℕ → At) → ℕ → ℕ → At
written_by d at written = if is_write d then with_event (of_member at) written else written

abbrev pub rung_by : Deed → At → (ℕ → ℕ → At) → ℕ → ℕ → At
rung_by d at rung = if rings d at.choice then with_event at rung else rung

unfoldable pub noted : Deed → At → Known → Known
noted d at k = record k { appended = appended_by d at k.appended; written = written_by d at k.written; rung = rung_by d at k.rung }

-- ---- one event, and all

unfoldable pub moved : Deed → At → Known → Known
moved d at k =
    if is_fail d then seats_failed at 16 k
    else if is_seat at then seat_moved d at k
    else k

unfoldable pub step : Known → EventLine → Known
step k e = noted (deed_of e) (at_of e) (found_if (deed_of e) (at_of e) (moved (deed_of e) (at_of e) k))

-- what is known behind all events
unfoldable pub known_by : List EventLine → Known
known_by events = fold step start events
