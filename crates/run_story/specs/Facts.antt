-- What stories are told from, and what is found in it.
use Rattle.std.specs.Prelude.{ℕ, ◌==◌, Bool, false, ◌&&◌, if◌then◌else◌, nat_lt, nat_le, List, codes, Option, Some, None, option_map, unwrap_or, slice_get, slice_index_or}
use Rattle.std.specs.List.{find, fold, position}
use Rattle.std.specs.Str.{bytes_eq}
use Rattle.ds_model.specs.declared.report.EventLine.{EventLine}
use Rattle.ds_model.specs.declared.report.Report.{Report}
use Rattle.run_spans.specs.Deeds.{deed_of, is_append, is_fail}
use Rattle.run_spans.specs.Runs.{known_by}
use Rattle.run_spans.specs.declared.latest.At.{At}
use Rattle.run_spans.specs.declared.span.Span.{Span}
use Rattle.run_spans.specs.declared.span.Wait.{Wait}
use Rattle.run_picture.specs.Matches.{matched}
use Rattle.run_story.specs.declared.known.Known.{Known}
use Rattle.run_story.specs.Names.{number_named}

-- the transactions and the waits of the trace, and for each transaction of the report the number of its own
pub record Facts : Type 0 where
  pub spans : List Span
  pub waits : List Wait
  pub numbers : List (Option ℕ)

abbrev pub facts_of : Known → Facts
facts_of k = record { spans = k.read.spans.items; waits = k.read.waits.items; numbers = k.numbers.items }

unfoldable pub facts_in : Report → Facts
facts_in r = record {
  spans = (known_by r.trace.events).spans;
  waits = (known_by r.trace.events).waits;
  numbers = matched (known_by r.trace.events).spans (known_by r.trace.events).commits r.trace.causes r.entries;
}

-- ---- spans

abbrev pub number_of_span : Facts → ℕ → Option ℕ
number_of_span f number = slice_index_or f.numbers number None

abbrev pub span_at : List Span → Option ℕ → Option Span
span_at spans None = None
span_at spans (Some number) = slice_get spans number

unfoldable pub span_of : Facts → ℕ → Option Span
span_of f number = span_at f.spans (number_of_span f number)

-- an event is one of a span's
abbrev pub is_of : Span → At → Bool
is_of s at = (s.member == at.member) && ((s.choice == at.choice) && (nat_le s.first at.place && nat_le at.place s.last))

abbrev pub is_of_some : Option Span → At → Bool
is_of_some None at = false
is_of_some (Some s) at = is_of s at

unfoldable pub owns : List Span → At → Option ℕ → Bool
owns spans at number = is_of_some (span_at spans number) at

-- the number of the transaction whose event this is
unfoldable pub owner_of : Facts → At → Option ℕ
owner_of f at = position (owns f.spans at) f.numbers

-- ---- events

-- the place of the first that passes
abbrev pub first_place : (EventLine → Bool) → List EventLine → Option ℕ
first_place test events = option_map (λ e. e.place) (find test events)

abbrev pub is_stable : Span → EventLine → Bool
is_stable s e = (e.member == s.member) && (nat_lt s.commit e.place && is_append (deed_of e))

-- where the commit of a transaction came into the log of its member, 0 where it didn't
unfoldable pub stable_place : List EventLine → Span → ℕ
stable_place events s = if s.commit == 0 then 0 else unwrap_or (first_place (is_stable s) events) 0

abbrev pub is_up : EventLine → Bool
is_up e = bytes_eq e.command (codes "set-status") && bytes_eq e.reply (codes "done")

abbrev pub is_up_behind : ℕ → ℕ → EventLine → Bool
is_up_behind member place e = (e.member == member) && (nat_lt place e.place && is_up e)

-- where a member was up again behind a place, 0 where it wasn't
unfoldable pub up_behind : List EventLine → ℕ → ℕ → ℕ
up_behind events member place = unwrap_or (first_place (is_up_behind member place) events) 0

abbrev pub is_failure_of : ℕ → ℕ → EventLine → Bool
is_failure_of member place e = (e.member == member) && (nat_le e.place place && is_fail (deed_of e))

abbrev pub failed_by : ℕ → ℕ → ℕ → EventLine → ℕ
failed_by member place failure e = if is_failure_of member place e then e.place else failure

-- the last failure of a member up to a place, 0 where there is none
unfoldable pub failure_before : List EventLine → ℕ → ℕ → ℕ
failure_before events member place = fold (failed_by member place) 0 events

abbrev pub is_failure : Span → EventLine → Bool
is_failure s e = (e.member == s.member) && (nat_le s.first e.place && (nat_le e.place s.last && is_fail (deed_of e)))

-- the event at a place, which stands where its place says
abbrev pub event_at : ℕ → Option EventLine → Option EventLine
event_at place None = None
event_at place (Some e) = if e.place == place then Some e else None

-- ---- waits

abbrev pub is_at : ℕ → ℕ → Wait → Bool
is_at number place w = (w.span == number) && (nat_le w.from place && nat_le place w.to)

abbrev pub since_by : Facts → Option ℕ → ℕ → Option ℕ
since_by f None place = None
since_by f (Some number) place = option_map (λ w. w.from) (find (is_at number place) f.waits)

abbrev pub span_named_by : Facts → Option ℕ → Option ℕ
span_named_by f None = None
span_named_by f (Some number) = number_of_span f number

-- since when the transaction of a name has waited, where it does at a place
unfoldable pub waits_since : Report → Facts → List ℕ → ℕ → Option ℕ
waits_since r f name place = since_by f (span_named_by f (number_named name r.entries)) place
