-- What the seeded schedule draws.
use Rattle.std.proofs.Common.{◌≡◌, ℕ, ◌%◌, ◌<◌, true, false, not, List, [], length, map, take, Option, Some, None, is_some, slice_get, Contains, IfNone, IfSome, OnSome, refl, sym, ap, ◌∙◌, arith}
use Rattle.std.proofs.lemmas.Bool.{and_from, and_parts, cond-false, false_from_ne_true, or_parts}
use Rattle.std.proofs.lemmas.List.{take-map}
use Rattle.draw_generator.specs.Draws.{drawn}
use Rattle.group_crew.specs.declared.crew.Crew.{Crew}
use Rattle.group_crew.specs.Crews.{is_ready_in}
use Rattle.group_crew.specs.Happening.{MemberPart}
use Rattle.script_phases.specs.Progresses.{is_at_end, own_choice}
use Rattle.group_core.specs.declared.fault.RunFault.{RunFault}
use Rattle.group_core.specs.declared.group.Group.{Group}
use Rattle.group_core.specs.Events.{TakesNone, events_from, is_over, member_events, ready_events, takes}
use Rattle.group_core.specs.Runs.{IsDrawn}
use Rattle.group_core.proofs.Listed.{all_contained, all_ready, get_none, left_ready}

unfaulted : (why : Option RunFault) → is_some why ≡ false → not (is_some why) ≡ true
unfaulted None fails = refl
unfaulted (Some why) fails = (let never : true ≡ false = fails in cc)

drawn_taken : {C D P : Type 0} (group : Group D C P) (n event : ℕ) → is_over group ≡ false → slice_get (ready_events group.crew) n ≡ Some event → takes group event ≡ true
drawn_taken group n event going is =
    and_from (not (is_some group.fault)) (is_ready_in group.crew event)
    (unfaulted group.fault (or_parts (is_some group.fault) (is_at_end (is_some group.crew.restart) group.crew.progress group.crew.script) going).0)
    (all_ready (is_some group.crew.restart) (own_choice (is_some group.crew.restart) group.crew.progress group.crew.script) (map (λ part. part.ready) group.crew.parts.items) n event is)

pub draws : {C D P : Type 0} (group : Group D C P) (seed count at : ℕ) (result : Option ℕ) → is_over group ≡ false → count ≡ length (ready_events group.crew) → at ≡ drawn seed % count
    → result ≡ slice_get (ready_events group.crew) at → IfSome result (λ event. IsDrawn group seed event)
draws group seed count at None going all is got = tt
draws group seed count at (Some event) going all is got = record {
  taken = drawn_taken group at event going (sym got);
  stands = ap (λ n. slice_get (ready_events group.crew) (drawn seed % n)) (sym all) ∙ (ap (slice_get (ready_events group.crew)) (sym is) ∙ sym got);
}

-- one is drawn where any is ready
pub draws_one : {C D P : Type 0} (Q : Type 0) (group : Group D C P) (count at : ℕ) (result : Option ℕ) → count ≡ length (ready_events group.crew) → at < count
    → result ≡ slice_get (ready_events group.crew) at → IfNone result Q
draws_one Q group count at (Some event) all within got = tt
draws_one Q group count at None all within got = (let past = get_none (ready_events group.crew) at (sym got) in absurd (omega (arith, past, all, within)))

pub taken_listed : {C D P : Type 0} (group : Group D C P) (event : ℕ) → takes group event ≡ true → Contains (ready_events group.crew) event
taken_listed group event holds =
    all_contained (is_some group.crew.restart) (own_choice (is_some group.crew.restart) group.crew.progress group.crew.script) (map (λ part. part.ready) group.crew.parts.items) event
    (and_parts (not (is_some group.fault)) (is_ready_in group.crew event) holds).1

pub none_listed : {C D P : Type 0} (group : Group D C P) → length (ready_events group.crew) ≡ 0 → TakesNone group
none_listed group empty event = false_from_ne_true (takes group event) (λ holds. let has = taken_listed group event holds in let there = has.1 in omega (arith, there, empty))

pub on_some : {A : Type 0} (o : Option A) (P : Type 0) → P → OnSome o P
on_some None P holds = tt
on_some (Some x) P holds = holds

-- what the members that an event can name have ready
pub of_named : {C P : Type 0} (crew : Crew C P) (named : List (MemberPart P)) → is_some crew.restart ≡ false → named ≡ take 63 crew.parts.items → events_from 1 (left_ready named) ≡ member_events crew
of_named {C} {P} crew named going is =
    ap (λ (parts : List (MemberPart P)). events_from 1 (left_ready parts)) is
    ∙ (ap (events_from 1) (sym (take-map (λ (part : MemberPart P). part.ready) 63 crew.parts.items))
    ∙ sym (cond-false (is_some crew.restart) [] (events_from 1 (take 63 (left_ready crew.parts.items))) going))
