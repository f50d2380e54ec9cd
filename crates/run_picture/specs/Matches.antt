-- Which transaction of a report has which events, by the numbers of their spans.
--
-- The committed ones of a member stand in the report in the order in which their commits drew their numbers. All others stand in the order
-- of the script, in which they began. So each takes the first of its member's spans, in that order, that may be its own and that none
-- before it has taken.
use Rattle.std.specs.Prelude.{ℕ, zero, suc, ◌==◌, Bool, true, false, not, ◌&&◌, nat_le, List, [], ◌∷◌, ◌++◌, length, Option, Some, None, unwrap_or, slice_get, slice_index, slice_index_or, slice_set}
use Rattle.std.specs.List.{filter, fold, position_from, remove}
use Rattle.ds_model.specs.declared.report.CauseLine.{CauseLine}
use Rattle.ds_model.specs.declared.report.ReportEntry.{ReportEntry}
use Rattle.ds_model.specs.declared.report.Told.{Told}
use Rattle.ds_model.specs.declared.report.Told.TheVariants as told
use Rattle.run_spans.specs.declared.span.End.{End}
use Rattle.run_spans.specs.declared.span.End.TheVariants as ends
use Rattle.run_spans.specs.declared.span.Span.{Span}
use Rattle.run_picture.specs.Names.{no_number, with_number}

-- ---- causes

abbrev pub caused : (List ℕ → Option ℕ) → CauseLine → List ℕ → Option ℕ
caused places c = with_number c.name c.place places

-- for each name the place of the last cause that is told of it
unfoldable pub cause_of : List CauseLine → List ℕ → Option ℕ
cause_of causes = fold caused no_number causes

-- 0 where none is told
abbrev pub place_of_cause : List CauseLine → List ℕ → ℕ
place_of_cause causes name = unwrap_or (cause_of causes name) 0

-- ---- whose a span may be

abbrev pub is_committed : End → Bool
is_committed ends.Committed = true
is_committed _ = false

abbrev pub is_cut_off : End → Bool
is_cut_off ends.Failed = true
is_cut_off ends.Open = true
is_cut_off _ = false

-- a refusal's cause lies between the first and the last event
abbrev pub may_be_told : Told → ℕ → Span → Bool
may_be_told (told.Committed answered reads) cause s = is_committed s.end
may_be_told (told.Refused refusal) cause s = not (is_committed s.end) && (nat_le s.first cause && nat_le cause s.last)
may_be_told told.Stopped cause s = is_cut_off s.end

abbrev pub may_be_at : Told → ℕ → Option Span → Bool
may_be_at fate cause None = false
may_be_at fate cause (Some s) = may_be_told fate cause s

unfoldable pub may_be : List Span → Told → ℕ → ℕ → Bool
may_be spans fate cause number = may_be_at fate cause (slice_get spans number)

-- ---- the order in which spans are taken

abbrev pub is_of : ℕ → Option Span → Bool
is_of member None = false
is_of member (Some s) = s.member == member

abbrev pub ends_committed : Option Span → Bool
ends_committed None = false
ends_committed (Some s) = is_committed s.end

unfoldable pub is_committed_of : List Span → ℕ → ℕ → Bool
is_committed_of spans member number = is_of member (slice_get spans number) && ends_committed (slice_get spans number)

unfoldable pub is_other_of : List Span → ℕ → ℕ → Bool
is_other_of spans member number = is_of member (slice_get spans number) && not (ends_committed (slice_get spans number))

-- the numbers below one
unfoldable pub below : ℕ → List ℕ
below zero = []
below (suc n) = below n ++ n ∷ []

-- those of a member: the committed ones by their commits, and then all others as they began
unfoldable pub numbers_of : List Span → List ℕ → ℕ → List ℕ
numbers_of spans commits member = filter (is_committed_of spans member) commits ++ filter (is_other_of spans member) (below (length spans))

-- those of the group and of all members before one, by members
unfoldable pub queues_to : List Span → List ℕ → ℕ → List (List ℕ)
queues_to spans commits zero = []
queues_to spans commits (suc member) = queues_to spans commits member ++ numbers_of spans commits member ∷ []

-- ---- what entries take

-- the numbers that are left for the group and for each member, and that of each entry so far
pub record Matching : Type 0 where
  pub left : List (List ℕ)
  pub numbers : List (Option ℕ)

-- the number at a place of a queue
abbrev pub taken_at : Option ℕ → List ℕ → Option ℕ
taken_at None numbers = None
taken_at (Some n) numbers = Some (slice_index numbers n)

abbrev pub left_at : Option ℕ → List ℕ → List ℕ
left_at None numbers = numbers
left_at (Some n) numbers = remove numbers n

unfoldable pub first_place : List Span → Told → ℕ → List ℕ → Option ℕ
first_place spans fate cause numbers = position_from (may_be spans fate cause) 0 numbers

unfoldable pub first_of : List Span → Told → ℕ → List ℕ → Option ℕ
first_of spans fate cause numbers = taken_at (first_place spans fate cause numbers) numbers

unfoldable pub without_first : List Span → Told → ℕ → List ℕ → List ℕ
without_first spans fate cause numbers = left_at (first_place spans fate cause numbers) numbers

abbrev pub queue_of : List (List ℕ) → ℕ → List ℕ
queue_of left member = slice_index_or left member []

unfoldable pub next_of : List Span → ℕ → List (List ℕ) → ReportEntry → Option ℕ
next_of spans cause left e = first_of spans e.told cause (queue_of left e.member)

unfoldable pub left_behind : List Span → ℕ → List (List ℕ) → ReportEntry → List (List ℕ)
left_behind spans cause left e = slice_set left e.member (without_first spans e.told cause (queue_of left e.member))

-- an entry takes its number; its cause, if it has one, is told of this place
unfoldable pub with_match : List Span → ℕ → ReportEntry → Matching → Matching
with_match spans cause e m = record { left = left_behind spans cause m.left e; numbers = m.numbers ++ next_of spans cause m.left e ∷ [] }

abbrev pub with_entry : List Span → List CauseLine → Matching → ReportEntry → Matching
with_entry spans causes m e = with_match spans (place_of_cause causes e.name) e m

unfoldable pub unmatched : List Span → List ℕ → Matching
unmatched spans commits = record { left = queues_to spans commits 33; numbers = [] }

unfoldable pub matched_all : List Span → List ℕ → List CauseLine → List ReportEntry → Matching
matched_all spans commits causes entries = fold (with_entry spans causes) (unmatched spans commits) entries

-- for each entry the number of its span
abbrev pub matched : List Span → List ℕ → List CauseLine → List ReportEntry → List (Option ℕ)
matched spans commits causes entries = (matched_all spans commits causes entries).numbers
