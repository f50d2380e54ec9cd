-- What a picture shows of a run: of each shape what it stands for, what is said of it, and from which pixel to which it goes, counted from
-- the left.
use Rattle.std.specs.Prelude.{ℕ, ◌+◌, ◌-◌, ◌^◌, ◌≡◌, min, max, Bool, true, false, ◌&&◌, if◌then◌else◌, nat_lt, List, [], ◌∷◌, codes, map, Option, Some, None}
use Rattle.std.specs.List.{flat_map, zip}
use Rattle.ds_model.specs.ReportText.{event_text}
use Rattle.ds_model.specs.declared.report.CauseLine.{CauseLine}
use Rattle.ds_model.specs.declared.report.EventLine.{EventLine}
use Rattle.ds_model.specs.declared.report.Report.{Report}
use Rattle.ds_model.specs.declared.report.ReportEntry.{ReportEntry}
use Rattle.ds_model.specs.declared.report.Told.{Told}
use Rattle.ds_model.specs.declared.report.Told.TheVariants as told
use Rattle.picture_text.specs.declared.picture.Kind.{Kind}
use Rattle.picture_text.specs.declared.picture.Kind.TheVariants as kinds
use Rattle.picture_text.specs.declared.picture.Shape.{Shape}
use Rattle.picture_text.specs.declared.picture.Picture.{Picture}
use Rattle.run_spans.specs.Runs.{known_by}
use Rattle.run_spans.specs.declared.span.Passage.{Passage}
use Rattle.run_spans.specs.declared.span.Wait.{Wait}
use Rattle.run_picture.specs.declared.bars.Reach.{Reach}
use Rattle.run_picture.specs.declared.lane.Lane.{Lane}
use Rattle.run_picture.specs.declared.scale.Scale.{Scale}
use Rattle.run_picture.specs.declared.mark.Mark.{Mark}
use Rattle.run_picture.specs.Marking.{is_of, mark_kind, mark_of}
use Rattle.run_picture.specs.Matches.{place_of_cause}
use Rattle.run_picture.specs.Places.{across_of, draws, has, height_of, kind_of, meets, spots_of}
use Rattle.run_picture.specs.Reaching.{reaches_of}
use Rattle.run_picture.specs.Titles.{bar_title, counted_twice, fate_text}

pub record Seen : Type 0 where
  pub kind : Kind
  pub title : List ℕ
  pub from : ℕ
  pub to : ℕ

abbrev pub seen_of : Shape → Seen
seen_of s = record { kind = s.kind; title = s.title; from = s.from.across; to = s.to.across }

-- from where to where a lane goes, from above
abbrev pub lane_seen : Shape → Lane
lane_seen s = record { top = s.from.down; bottom = s.to.down }

-- ---- transactions

-- a bar ends where the event behind its last one would stand, but it is never too narrow to be seen
abbrev pub bar_end : Scale → Reach → ℕ
bar_end s r = max (across_of s (min (r.last + 1) (2 ^ 64 - 1))) (across_of s r.first + 3)

abbrev pub bar_seen : Scale → ReportEntry → Reach → Seen
bar_seen s e r = record { kind = kind_of e.told; title = bar_title e r.first r.last; from = across_of s r.first; to = bar_end s r }

abbrev pub bars_seen : Scale → (ReportEntry × Reach) → List Seen
bars_seen s p = if meets s p.1.first p.1.last then bar_seen s p.0 p.1 ∷ [] else []

-- ---- waits and pages

abbrev pub wait_seen : Scale → Wait → Seen
wait_seen s w = record { kind = kinds.Wait; title = counted_twice (codes "waits from event ") w.from (codes " to ") w.to; from = across_of s w.from; to = across_of s w.to }

-- what came last before the end of a wait, where it came in the wait
abbrev pub rung_seen : Scale → Wait → Seen
rung_seen s w = record { kind = kinds.Rung; title = counted_twice (codes "the wait until event ") w.to (codes " was over behind event ") w.rung.place; from = across_of s w.rung.place; to = across_of s w.to }

abbrev pub rungs_seen : Scale → Wait → List Seen
rungs_seen s w = if nat_lt w.from w.rung.place && has s w.rung.place then rung_seen s w ∷ [] else []

unfoldable pub waits_seen : Scale → Wait → List Seen
waits_seen s w = if meets s w.from w.to then wait_seen s w ∷ rungs_seen s w else []

abbrev pub page_seen : Scale → Passage → Seen
page_seen s p = record { kind = kinds.Page; title = counted_twice (codes "a page was written at event ") p.write.place (codes ", and one found at event ") p.read.place; from = across_of s p.write.place; to = across_of s p.read.place }

abbrev pub pages_seen : Scale → Passage → List Seen
pages_seen s p = if has s p.write.place && draws s p.read.place then page_seen s p ∷ [] else []

-- ---- events, marks and causes

abbrev pub event_seen : Kind → Scale → EventLine → Seen
event_seen k s e = record { kind = k; title = event_text e; from = across_of s e.place; to = across_of s e.place }

abbrev pub events_seen : Scale → EventLine → List Seen
events_seen s e = if draws s e.place then event_seen kinds.Event s e ∷ [] else []

abbrev pub mark_seen_by : Option Mark → Scale → Bool → EventLine → List Seen
mark_seen_by None s of_phases e = []
mark_seen_by (Some m) s of_phases e = if is_of of_phases m && has s e.place then event_seen (mark_kind m) s e ∷ [] else []

unfoldable pub marks_seen : Scale → Bool → EventLine → List Seen
marks_seen s of_phases e = mark_seen_by (mark_of e) s of_phases e

abbrev pub cause_seen : Scale → ℕ → ReportEntry → Seen
cause_seen s place e = record { kind = kinds.Cause; title = fate_text e; from = across_of s place; to = across_of s place }

abbrev pub cause_seen_by : Told → Scale → ℕ → ReportEntry → List Seen
cause_seen_by (told.Refused refusal) s place e = if has s place then cause_seen s place e ∷ [] else []
cause_seen_by _ s place e = []

unfoldable pub causes_seen : Scale → List CauseLine → ReportEntry → List Seen
causes_seen s causes e = cause_seen_by e.told s (place_of_cause causes e.name) e

-- ---- all

-- from which event to which each transaction of a report went on
abbrev pub reaches_in : Report → List Reach
reaches_in r = reaches_of (known_by r.trace.events) r.trace.causes r.trace.events r.entries

pub record IsSeen (s : Scale) (r : Report) (p : Picture) : Type 0 where
  pub bars : map seen_of p.bars ≡ flat_map (bars_seen s) (zip r.entries (reaches_in r))
  pub waits : map seen_of p.waits ≡ flat_map (waits_seen s) (known_by r.trace.events).waits
  pub pages : map seen_of p.pages ≡ flat_map (pages_seen s) (known_by r.trace.events).pages
  pub events : map seen_of p.events ≡ flat_map (events_seen s) r.trace.events
  pub phases : map seen_of p.phases ≡ flat_map (marks_seen s true) r.trace.events
  pub marks : map seen_of p.marks ≡ flat_map (marks_seen s false) r.trace.events
  pub height : p.height ≡ height_of (map lane_seen p.lanes)
  pub spots : map (λ x. x.from) p.events ≡ flat_map (spots_of s (map lane_seen p.lanes)) r.trace.events
  pub causes : map seen_of p.causes ≡ flat_map (causes_seen s r.trace.causes) r.entries
