-- The numbers of events: which are taken, and which are ready, in the order of the seeded schedule.
use Rattle.std.specs.Prelude.{◌≡◌, ℕ, ◌+◌, ◌*◌, ◌&&◌, ◌||◌, Bool, true, false, not, List, [], ◌∷◌, ◌++◌, map, take, Option, is_some, option_map, option_to_list, if◌then◌else◌}
use Rattle.group_crew.specs.declared.crew.Crew.{Crew}
use Rattle.group_crew.specs.Crews.{is_ready_in}
use Rattle.script_phases.specs.Progresses.{is_at_end, own_choice}
use Rattle.choice_bits.specs.Choices.{choices_of}
use Rattle.group_core.specs.declared.fault.RunFault.{RunFault}
use Rattle.group_core.specs.declared.group.Group.{Group}
use Rattle.group_core.specs.declared.schedule.RunEnd.{RunEnd}
use Rattle.group_core.specs.declared.schedule.RunEnd.TheVariants as ends

-- whether the event is taken: the run hasn't ended, and its choice is ready
abbrev pub is_taken : {C P : Type 0} → Option RunFault → Crew C P → ℕ → Bool
is_taken {C} {P} why crew event = not (is_some why) && is_ready_in crew event

abbrev pub takes : {C D P : Type 0} → Group D C P → ℕ → Bool
takes {C} {D} {P} group event = is_taken group.fault group.crew event

-- no event is ready, or the run has ended by a fault
abbrev pub TakesNone : {C D P : Type 0} → Group D C P → Type 0
TakesNone {C} {D} {P} group = (event : ℕ) → takes group event ≡ false

-- whether the run has ended: the script is played, or there is a fault
abbrev pub is_over : {C D P : Type 0} → Group D C P → Bool
is_over {C} {D} {P} group = is_some group.fault || is_at_end (is_some group.crew.restart) group.crew.progress group.crew.script

-- ---- all that is ready

-- the event of the group itself
abbrev pub own_event : {C P : Type 0} → Crew C P → Option ℕ
own_event {C} {P} crew = option_map (λ choice. choice * 64) (own_choice (is_some crew.restart) crew.progress crew.script)

-- the events of members by what is ready of each, where the first one has this number in an event
unfoldable pub events_from : ℕ → List ℕ → List ℕ
events_from who [] = []
events_from who (ready ∷ rest) = map (λ choice. choice * 64 + who) (choices_of ready) ++ events_from (who + 1) rest

-- the events of the members that an event can name, by member and then by choice; none while a group restart is in hand
abbrev pub member_events : {C P : Type 0} → Crew C P → List ℕ
member_events {C} {P} crew = if is_some crew.restart then [] else events_from 1 (take 63 (map (λ part. part.ready) crew.parts.items))

-- what the seeded schedule draws from
abbrev pub ready_events : {C P : Type 0} → Crew C P → List ℕ
ready_events {C} {P} crew = option_to_list (own_event crew) ++ member_events crew
