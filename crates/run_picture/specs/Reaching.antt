-- From which event to which the transactions of a report went on.
use Rattle.std.specs.Prelude.{ℕ, List, map, Option, Some, None, slice_get, if◌then◌else◌}
use Rattle.std.specs.List.{fold, zip}
use Rattle.ds_model.specs.declared.report.CauseLine.{CauseLine}
use Rattle.ds_model.specs.declared.report.EventLine.{EventLine}
use Rattle.ds_model.specs.declared.report.ReportEntry.{ReportEntry}
use Rattle.run_spans.specs.Deeds.{deed_of, is_fail}
use Rattle.run_spans.specs.Places.{nowhere, with_place}
use Rattle.run_spans.specs.Runs.{Known}
use Rattle.run_spans.specs.declared.span.Span.{Span}
use Rattle.run_picture.specs.declared.bars.Reach.{Reach}
use Rattle.run_picture.specs.Matches.{matched}

-- ---- the place of each member's last failure

abbrev pub failed_by : (ℕ → ℕ) → EventLine → ℕ → ℕ
failed_by failed e = if is_fail (deed_of e) then with_place e.member e.place failed else failed

unfoldable pub failures_in : List EventLine → ℕ → ℕ
failures_in events = fold failed_by nowhere events

-- ---- reaches

abbrev pub span_at : List Span → Option ℕ → Option Span
span_at spans None = None
span_at spans (Some number) = slice_get spans number

abbrev pub reach_by : Option Span → ℕ → Reach
reach_by None place = record { first = place; last = place }
reach_by (Some s) place = record { first = s.first; last = s.last }

-- one that never began stands where its member failed last
unfoldable pub reach_of : List Span → (ℕ → ℕ) → (ReportEntry × Option ℕ) → Reach
reach_of spans failed p = reach_by (span_at spans p.1) (failed p.0.member)

unfoldable pub reaches_of : Known → List CauseLine → List EventLine → List ReportEntry → List Reach
reaches_of k causes events entries = map (reach_of k.spans (failures_in events)) (zip entries (matched k.spans k.commits causes entries))
