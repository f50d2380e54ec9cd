-- The story of a transaction, line by line.
use Rattle.std.specs.Prelude.{ℕ, ◌-◌, ◌==◌, Bool, true, false, if◌then◌else◌, nat_lt, List, [], ◌∷◌, ◌++◌, codes, decimal, Option, Some, None, slice_get}
use Rattle.std.specs.List.{flat_map}
use Rattle.ds_model.specs.declared.report.EventLine.{EventLine}
use Rattle.ds_model.specs.declared.report.Report.{Report}
use Rattle.ds_model.specs.declared.report.ReportEntry.{ReportEntry}
use Rattle.ds_model.specs.declared.report.Told.{Told}
use Rattle.ds_model.specs.declared.report.Told.TheVariants as told
use Rattle.ds_model.specs.declared.report.ToldRefusal.{ToldRefusal}
use Rattle.ds_model.specs.declared.report.ToldRefusal.TheVariants as refusals
use Rattle.run_spans.specs.Deeds.{deed_of}
use Rattle.run_spans.specs.Runs.{at_of}
use Rattle.run_spans.specs.declared.deed.Deed.{Deed}
use Rattle.run_spans.specs.declared.deed.Deed.TheVariants as deeds
use Rattle.run_spans.specs.declared.latest.At.{At}
use Rattle.run_spans.specs.declared.span.Span.{Span}
use Rattle.run_spans.specs.declared.span.Wait.{Wait}
use Rattle.run_picture.specs.Matches.{place_of_cause}
use Rattle.run_picture.specs.Titles.{fate_text}
use Rattle.run_story.specs.Facts.{Facts, event_at, facts_in, failure_before, is_failure, is_of, number_of_span, owner_of, span_of, stable_place, up_behind, waits_since}
use Rattle.run_story.specs.Names.{number_named}
use Rattle.run_story.specs.Phrases.{phrase_of}
use Rattle.run_story.specs.declared.course.Places.{Places}

abbrev pub end_of_line : List ℕ
end_of_line = 10 ∷ []

abbrev pub line : List ℕ → List ℕ
line text = text ++ end_of_line

-- a number behind a text
unfoldable pub counted : List ℕ → ℕ → List ℕ
counted text n = text ++ decimal n

-- ---- who a transaction is

abbrev pub reach_text : Option Span → List ℕ
reach_text None = codes " never began"
reach_text (Some s) = counted (codes " from event ") s.first ++ counted (codes " to ") s.last

unfoldable pub entry_text : ReportEntry → Option Span → List ℕ
entry_text e s = e.name ++ (counted (codes " of member ") e.member ++ reach_text s)

abbrev pub who_by : Option ReportEntry → Option Span → List ℕ
who_by None s = []
who_by (Some e) s = entry_text e s

-- its name, its member, and from when to when it went on
unfoldable pub who_text : Report → Facts → ℕ → List ℕ
who_text r f number = who_by (slice_get r.entries number) (span_of f number)

abbrev pub fate_words : Told → List ℕ
fate_words (told.Committed true reads) = line (codes ", committed")
fate_words (told.Committed false reads) = line (codes ", committed, its answer lost")
fate_words (told.Refused refusal) = line (codes ", refused")
fate_words told.Stopped = line (codes ", stopped")

abbrev pub other_by : Option ReportEntry → List ℕ → List ℕ
other_by None who = []
other_by (Some e) who = who ++ fate_words e.told

unfoldable pub other_text : Report → Facts → ℕ → List ℕ
other_text r f number = other_by (slice_get r.entries number) (who_text r f number)

abbrev pub other_by_number : Report → Facts → Option ℕ → List ℕ
other_by_number r f None = []
other_by_number r f (Some number) = other_text r f number

unfoldable pub other_named : Report → Facts → List ℕ → List ℕ
other_named r f name = other_by_number r f (number_named name r.entries)

-- ---- a cycle: each waited for the next, and the last for the first

unfoldable pub since_text : Option ℕ → List ℕ
since_text None = []
since_text (Some since) = counted (codes ", since event ") since

unfoldable pub waited_words : List ℕ
waited_words = codes " waited for "

unfoldable pub pair_opening : List ℕ → List ℕ → List ℕ
pair_opening one next = one ++ (waited_words ++ next)

-- that one waited for the next
unfoldable pub pair_text : Report → Facts → ℕ → List ℕ → List ℕ → List ℕ
pair_text r f place one next = pair_opening one next ++ (since_text (waits_since r f one place) ++ end_of_line)

unfoldable pub cycle_text : Report → Facts → ℕ → List ℕ → List ℕ → List (List ℕ) → List ℕ
cycle_text r f place first one [] = pair_text r f place one first
cycle_text r f place first one (next ∷ rest) = pair_text r f place one next ++ cycle_text r f place first next rest

-- ---- those that a refusal names

unfoldable pub failure_words : ℕ → List ℕ
failure_words failure = if nat_lt 0 failure then counted (codes " had failed at event ") failure else codes " had failed before the first event"

unfoldable pub up_words : ℕ → List ℕ
up_words up = if nat_lt 0 up then counted (codes ", and was up again at event ") up else []

unfoldable pub failure_text : Report → ℕ → ℕ → List ℕ
failure_text r member place = counted (codes "member ") member ++ (failure_words (failure_before r.trace.events member place) ++ (up_words (up_behind r.trace.events member place) ++ end_of_line))

-- the holder of a lock, unless it is the transaction itself
abbrev pub holder_by : Report → Facts → ℕ → Option ℕ → List ℕ
holder_by r f own None = []
holder_by r f own (Some number) = if number == own then [] else other_text r f number

abbrev pub deadlock_text : Report → Facts → ℕ → List (List ℕ) → List ℕ
deadlock_text r f place [] = []
deadlock_text r f place (first ∷ others) = flat_map (other_named r f) others ++ cycle_text r f place first first others

unfoldable pub named_text : Report → Facts → ℕ → ℕ → ToldRefusal → List ℕ
named_text r f own place (refusals.Held name by) = holder_by r f own (number_named by r.entries)
named_text r f own place (refusals.Retained name by) = failure_text r by place
named_text r f own place (refusals.Deadlock cycle) = deadlock_text r f place cycle
named_text r f own place _ = []

-- ---- its events

unfoldable pub line_text : ℕ → List ℕ → List ℕ
line_text place phrase = counted (codes "at event ") place ++ (codes " " ++ (phrase ++ end_of_line))

unfoldable pub why_text : ToldRefusal → List ℕ
why_text (refusals.Held name by) = by ++ codes " holds the lock"
why_text (refusals.Retained name by) = counted (codes "member ") by ++ codes " retains the lock"
why_text (refusals.Deadlock cycle) = codes "the cycle is found"
why_text (refusals.SpaceFull table pages) = codes "the table space has no page left"
why_text (refusals.RecordsFull limit) = codes "the lock structure has no record left"
why_text (refusals.LrsnEnd at) = codes "log records have no number left"
why_text refusals.Memory = codes "memory is wanting"
why_text refusals.Aborted = codes "it aborts"

unfoldable pub refused_words : List ℕ
refused_words = codes " it is refused: "

unfoldable pub refusal_opening : ℕ → List ℕ
refusal_opening place = counted (codes "at event ") place ++ refused_words

unfoldable pub refusal_text : ℕ → ToldRefusal → List ℕ
refusal_text place refusal = refusal_opening place ++ (why_text refusal ++ end_of_line)

abbrev pub refused_text : ℕ → Told → List ℕ
refused_text place (told.Refused refusal) = refusal_text place refusal
refused_text place _ = []

abbrev pub begun_text : Span → EventLine → List ℕ
begun_text s e = if e.place == s.first then line_text e.place (codes "it begins") else []

abbrev pub phrase_text : Bool → ℕ → Option (List ℕ) → List ℕ
phrase_text own place None = []
phrase_text own place (Some phrase) = if own then line_text place phrase else []

abbrev pub said_text : Span → EventLine → List ℕ
said_text s e =
    if is_failure s e then line_text e.place (codes "its member fails")
    else phrase_text (is_of s (at_of e)) e.place (phrase_of e)

abbrev pub stable_text : ℕ → EventLine → List ℕ
stable_text stable e = if e.place == stable then line_text e.place (codes "its commit is stable") else []

abbrev pub cause_text : ℕ → Told → EventLine → List ℕ
cause_text cause fate e = if e.place == cause then refused_text e.place fate else []

-- what an event says of a transaction of this fate
unfoldable pub event_text : Told → Span → Places → EventLine → List ℕ
event_text fate s places e = begun_text s e ++ (said_text s e ++ (stable_text places.stable e ++ cause_text places.cause fate e))

-- ---- its waits

abbrev pub rung_words : Deed → List ℕ
rung_words deeds.End = codes ", which was over"
rung_words deeds.Raise = codes ", which raised a flag"
rung_words deeds.Fail = codes ", which failed"
rung_words deeds.Release = codes ", which gave up a lock"
rung_words _ = []

abbrev pub words_at : Option EventLine → List ℕ
words_at None = []
words_at (Some e) = rung_words (deed_of e)

abbrev pub member_words : At → List ℕ
member_words at = counted (codes "member ") at.member

abbrev pub name_by : Option ReportEntry → At → List ℕ
name_by None at = member_words at
name_by (Some e) at = e.name

abbrev pub owner_by : Report → Option ℕ → At → List ℕ
owner_by r None at = member_words at
owner_by r (Some number) at = name_by (slice_get r.entries number) at

-- the name of the transaction whose event this is, or its member
unfoldable pub owner_text : Report → Facts → At → List ℕ
owner_text r f at = owner_by r (owner_of f at) at

-- what it was, where the event of its place says so
unfoldable pub deed_text : List EventLine → ℕ → List ℕ
deed_text events place = words_at (event_at place (slice_get events (place - 1)))

unfoldable pub owned_text : Report → Facts → At → List ℕ
owned_text r f at = codes " of " ++ owner_text r f at

unfoldable pub behind_text : ℕ → List ℕ
behind_text place = counted (codes ", behind event ") place

unfoldable pub rung_text : Report → Facts → At → List ℕ
rung_text r f at = behind_text at.place ++ (owned_text r f at ++ deed_text r.trace.events at.place)

unfoldable pub rung_if : Report → Facts → Wait → List ℕ
rung_if r f w = if nat_lt w.from w.rung.place then rung_text r f w.rung else []

unfoldable pub waiting_words : List ℕ
waiting_words = codes "it waited from event "

unfoldable pub wait_opening : Wait → List ℕ
wait_opening w = counted waiting_words w.from ++ counted (codes " to ") w.to

unfoldable pub wait_text : Report → Facts → Wait → List ℕ
wait_text r f w = wait_opening w ++ (rung_if r f w ++ end_of_line)

abbrev pub wait_if : Report → Facts → ℕ → Wait → List ℕ
wait_if r f number w = if w.span == number then wait_text r f w else []

unfoldable pub on_words : List ℕ
on_words = line (codes " on")

unfoldable pub still_text : ℕ → List ℕ
still_text place = counted (codes "it waits from event ") place ++ on_words

abbrev pub open_text : Span → List ℕ
open_text s = if s.waits_from == 0 then [] else still_text s.waits_from

unfoldable pub waits_text : Report → Facts → ℕ → Span → List ℕ
waits_text r f number s = flat_map (wait_if r f number) f.waits ++ open_text s

-- ---- the story

abbrev pub places_of : Report → ℕ → Span → Places
places_of r cause s = record { cause = cause; stable = stable_place r.trace.events s }

abbrev pub begun_course : Report → Facts → Told → ℕ → ℕ → Span → List ℕ
begun_course r f fate cause number s = flat_map (event_text fate s (places_of r cause s)) r.trace.events ++ waits_text r f number s

abbrev pub course_by : Report → Facts → Told → ℕ → Option Span → Option ℕ → List ℕ
course_by r f fate cause None n = []
course_by r f fate cause (Some s) None = []
course_by r f fate cause (Some s) (Some number) = begun_course r f fate cause number s

unfoldable pub course_text : Report → Facts → ℕ → Told → ℕ → List ℕ
course_text r f own fate cause = course_by r f fate cause (span_of f own) (number_of_span f own)

abbrev pub refused_named : Report → Facts → ℕ → ℕ → Told → List ℕ
refused_named r f own cause (told.Refused refusal) = named_text r f own cause refusal
refused_named r f own cause _ = []

unfoldable pub story_text : Report → Facts → ℕ → ReportEntry → ℕ → List ℕ
story_text r f own e cause = fate_text e ++ (who_text r f own ++ (end_of_line ++ (refused_named r f own cause e.told ++ course_text r f own e.told cause)))

abbrev pub story_by : Report → Facts → ℕ → Option ReportEntry → List ℕ
story_by r f own None = []
story_by r f own (Some e) = story_text r f own e (place_of_cause r.trace.causes e.name)

-- the story of the transaction of this number
unfoldable pub story_in : Report → ℕ → List ℕ
story_in r own = story_by r (facts_in r) own (slice_get r.entries own)

abbrev pub story_named : Report → Option ℕ → Option (List ℕ)
story_named r None = None
story_named r (Some own) = Some (story_in r own)
