-- No transaction and no wait ends before it begins.
use Rattle.std.proofs.Common.{◌≡◌, ℕ, zero, suc, ◌==◌, nat_le, List, [], ◌∷◌, ◌++◌, slice_get, Option, Some, None, refl, subst, arith, All, fold}
use Rattle.std.proofs.lemmas.Bool.{cond_both}
use Rattle.std.proofs.lemmas.List.Elements.{All-nil, All-push, All-set, All-append, All-get_or, All-same}
use Rattle.std.proofs.lemmas.Option.{slice_get_within, get_or_from_slice_get}
use Rattle.ds_model.specs.declared.report.EventLine.{EventLine}
use Rattle.run_spans.specs.declared.deed.Deed.{Deed}
use Rattle.run_spans.specs.declared.latest.At.{At}
use Rattle.run_spans.specs.declared.span.Span.{Span}
use Rattle.run_spans.specs.declared.spans.Spans.{Spans}
use Rattle.run_spans.specs.Deeds.{deed_of, is_nothing, is_draw, is_wait, is_unwait, is_end, is_fail, is_read, ends_wait}
use Rattle.run_spans.specs.Reaches.{IsReach, IsWaiting, AreReaches, IsRead}
use Rattle.run_spans.specs.Runs.{Known, start, at_of, begun, waiting, drawing, changed, reaching, failed, wait_of, waits_in, is_seat, with_begun, gone_on, gone_on_if, seat_moved_by, seat_moved, span_failed, span_failed_if, seat_failed_by, seat_failed, seats_failed, found, found_if, noted, moved, step, known_by}

pub record Reached (k : Known) : Type 0 where
  pub spans : All IsReach k.spans
  pub waits : All IsWaiting k.waits

-- ---- one transaction

record SameEnds (s t : Span) : Type 0 where
  first : t.first ≡ s.first
  last : t.last ≡ s.last

drawing_ends : (place : ℕ) (s : Span) → SameEnds s (drawing place s)
drawing_ends place s = cond_both (s.commit == 0) (record s { commit = place }) s (SameEnds s) (λ _. record { first = refl; last = refl }) (λ _. record { first = refl; last = refl })

waiting_ends : (place : ℕ) (rung : At) (s : Span) → SameEnds s (waiting place rung s)
waiting_ends place rung s = cond_both (s.waits_from == 0) (record s { waits_from = place }) (record s { rung = rung }) (SameEnds s) (λ _. record { first = refl; last = refl }) (λ _. record { first = refl; last = refl })

changed_ends : (d : Deed) (place : ℕ) (rung : At) (s : Span) → SameEnds s (changed d place rung s)
unfolding changed
changed_ends d place rung s =
    cond_both (is_draw d) _ _ (SameEnds s) (λ _. drawing_ends place s)
    (λ _. cond_both (is_wait d) _ _ (SameEnds s) (λ _. waiting_ends place rung s)
    (λ _. cond_both (is_unwait d) _ _ (SameEnds s) (λ _. record { first = refl; last = refl })
    (λ _. cond_both (is_end d) _ _ (SameEnds s) (λ _. record { first = refl; last = refl }) (λ _. record { first = refl; last = refl }))))

farther : (place : ℕ) (s t : Span) → SameEnds s t → IsReach s → IsReach (reaching place t)
farther place s t same h = omega (arith, same.first, same.last, h)

failed_reaches : (place appended : ℕ) (s : Span) → IsReach s → IsReach (failed place appended s)
unfolding failed
failed_reaches place appended s h = omega (arith, h)

wait_reaches : (n : ℕ) (s : Span) (to : ℕ) → IsWaiting (wait_of n s to)
wait_reaches n s to = omega arith

waits_reach : (n : ℕ) (s : Span) (to : ℕ) → All IsWaiting (waits_in n s to)
unfolding waits_in
waits_reach n s to = cond_both (s.waits_from == 0) [] (wait_of n s to ∷ []) (All IsWaiting) (λ _. All-nil IsWaiting) (λ _. All-push IsWaiting [] (wait_of n s to) (All-nil IsWaiting) (wait_reaches n s to))

at_number : (spans : List Span) (n : ℕ) (s : Span) → slice_get spans n ≡ Some s → All IsReach spans → IsReach s
at_number spans n s is h = subst IsReach (get_or_from_slice_get spans n s s is) (All-get_or IsReach spans n s (slice_get_within spans n s is) h)

-- ---- seats

begun_reached : (at : At) (k : Known) → Reached k → Reached (with_begun at k)
unfolding with_begun
begun_reached at k h = record { spans = All-push IsReach k.spans (begun at) h.spans (omega arith); waits = h.waits }

gone_reached : (d : Deed) (at : At) (n : ℕ) (s : Span) (k : Known) → IsReach s → Reached k → Reached (gone_on d at n s k)
unfolding gone_on
gone_reached d at n s k reach h = record {
  spans = All-set IsReach k.spans n (reaching at.place (changed d at.place (k.rung at.member at.choice) s)) (farther at.place s (changed d at.place (k.rung at.member at.choice) s) (changed_ends d at.place (k.rung at.member at.choice) s) reach) h.spans;
  waits = cond_both (ends_wait d) (k.waits ++ waits_in n s at.place) k.waits (All IsWaiting) (λ _. All-append IsWaiting k.waits (waits_in n s at.place) h.waits (waits_reach n s at.place)) (λ _. h.waits);
}

gone_if_reached : (d : Deed) (at : At) (n : ℕ) (o : Option Span) (k : Known) → slice_get k.spans n ≡ o → Reached k → Reached (gone_on_if d at n o k)
gone_if_reached d at n None k is h = h
gone_if_reached d at n (Some s) k is h = gone_reached d at n s k (at_number k.spans n s is h.spans) h

moved_by_reached : (o : Option ℕ) (d : Deed) (at : At) (k : Known) → Reached k → Reached (seat_moved_by o d at k)
moved_by_reached None d at k h = cond_both (is_nothing d) (with_begun at k) k Reached (λ _. begun_reached at k h) (λ _. h)
moved_by_reached (Some n) d at k h = gone_if_reached d at n (slice_get k.spans n) k refl h

seat_reached : (d : Deed) (at : At) (k : Known) → Reached k → Reached (seat_moved d at k)
unfolding seat_moved
seat_reached d at k h = moved_by_reached (k.holder at.member at.choice) d at k h

-- ---- failures

span_reached : (at : At) (c n : ℕ) (s : Span) (k : Known) → IsReach s → Reached k → Reached (span_failed at c n s k)
unfolding span_failed
span_reached at c n s k reach h = record {
  spans = All-set IsReach k.spans n (failed at.place (k.appended at.member) s) (failed_reaches at.place (k.appended at.member) s reach) h.spans;
  waits = All-append IsWaiting k.waits (waits_in n s at.place) h.waits (waits_reach n s at.place);
}

span_if_reached : (at : At) (c n : ℕ) (o : Option Span) (k : Known) → slice_get k.spans n ≡ o → Reached k → Reached (span_failed_if at c n o k)
span_if_reached at c n None k is h = h
span_if_reached at c n (Some s) k is h = span_reached at c n s k (at_number k.spans n s is h.spans) h

failed_by_reached : (o : Option ℕ) (at : At) (c : ℕ) (k : Known) → Reached k → Reached (seat_failed_by o at c k)
failed_by_reached None at c k h = h
failed_by_reached (Some n) at c k h = span_if_reached at c n (slice_get k.spans n) k refl h

seat_failed_reached : (at : At) (c : ℕ) (k : Known) → Reached k → Reached (seat_failed at c k)
unfolding seat_failed
seat_failed_reached at c k h = failed_by_reached (k.holder at.member c) at c k h

seats_failed_reached : (at : At) (c : ℕ) (k : Known) → Reached k → Reached (seats_failed at c k)
unfolding seats_failed
seats_failed_reached at zero k h = h
seats_failed_reached at (suc c) k h = seat_failed_reached at (suc c) (seats_failed at c k) (seats_failed_reached at c k h)

-- ---- one event, and all

moved_reached : (d : Deed) (at : At) (k : Known) → Reached k → Reached (moved d at k)
unfolding moved
moved_reached d at k h =
    cond_both (is_fail d) _ _ Reached (λ _. seats_failed_reached at 16 k h)
    (λ _. cond_both (is_seat at) _ _ Reached (λ _. seat_reached d at k h) (λ _. h))

found_reached : (at : At) (k : Known) → Reached k → Reached (found at k)
unfolding found
found_reached at k h = cond_both (nat_le (k.written at.member 0).place (k.reached at.member)) _ _ Reached (λ _. h) (λ _. record { spans = h.spans; waits = h.waits })

found_if_reached : (d : Deed) (at : At) (k : Known) → Reached k → Reached (found_if d at k)
found_if_reached d at k h = cond_both (is_read d) _ _ Reached (λ _. found_reached at k h) (λ _. h)

noted_reached : (d : Deed) (at : At) (k : Known) → Reached k → Reached (noted d at k)
unfolding noted
noted_reached d at k h = record { spans = h.spans; waits = h.waits }

step_reached : (k : Known) (e : EventLine) → Reached k → Reached (step k e)
unfolding step
step_reached k e h = noted_reached (deed_of e) (at_of e) _ (found_if_reached (deed_of e) (at_of e) _ (moved_reached (deed_of e) (at_of e) k h))

from_there : (k : Known) (events : List EventLine) → Reached k → Reached (fold step k events)
from_there k [] h = h
from_there k (e ∷ events) h = from_there (step k e) events (step_reached k e h)

start_reached : Reached start
unfolding start
start_reached = record { spans = All-nil IsReach; waits = All-nil IsWaiting }

known_reached : (events : List EventLine) → Reached (known_by events)
unfolding known_by
known_reached events = from_there start events start_reached

pub read_reaches : (read : Spans) (events : List EventLine) → IsRead read (known_by events) → AreReaches read
read_reaches read events is =
    let h = known_reached events in
    record { spans = All-same IsReach read.spans.items (known_by events).spans is.spans h.spans; waits = All-same IsWaiting read.waits.items (known_by events).waits is.waits h.waits }
