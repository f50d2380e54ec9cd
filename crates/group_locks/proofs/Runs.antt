-- Whole runs, event by event.
use Rattle.std.proofs.Common.{◌≡◌, ℕ, ◌+◌, refl, sym, ◌∙◌, ap, subst, Bool, true, false, List, [], ◌∷◌, ◌++◌, Option, Some}
use Rattle.std.specs.Prelude.{◌≢◌, ◌&&◌, not, IfSome, is_some, map}
use Rattle.std.proofs.lemmas.Option.{slice_get-map}
use Rattle.ds_disk.specs.Contents.{Contents}
use Rattle.cache_structure.specs.Directory.{Directory}
use Rattle.lock_names.specs.Entries.{entry_number}
use Rattle.restart_marks.specs.Adopt.{adopted_told}
use Rattle.group_member.specs.declared.part.MemberPart.{MemberPart}
use Rattle.group_member.specs.Members.{IsDown, Member, member_of}
use Rattle.group_core.specs.Given.{Crew}
use Rattle.group_core.specs.Given.{is_ready_in, unlooked}
use Rattle.group_core.specs.Given.{CrewState, crew_state}
use Rattle.group_core.specs.declared.fault.RunFault.{RunFault}
use Rattle.group_core.specs.declared.fault.RunFault.TheVariants as fault
use Rattle.group_core.specs.declared.group.Group.{Group}
use Rattle.group_core.specs.Events.{takes}
use Rattle.group_core.specs.Fresh.{IsLooked, RunsFresh}
use Rattle.group_core.specs.Starts.{IsFresh}
use Rattle.group_core.specs.Takes.{Takes}
use Rattle.lock_protocol.specs.Machine.{World, start}
use Rattle.lock_protocol.specs.Moves.{Run}
use Rattle.lock_world.specs.Numbers.{name_at}
use Rattle.lock_world.specs.Views.{entry_in}
use Rattle.group_locks.specs.Agreeing.{TiedAgree}
use Rattle.group_locks.specs.Beginning.{StartsTied}
use Rattle.group_locks.specs.Events.{Moves, Whose}
use Rattle.group_locks.specs.Runs.{AllEvents, AreCounted, Finds, FindsClaims, HandsNoneOver, IsSafe, PlainRunsStand, PlainRunsStay, RunsStand, StandsBeside, StaysSafe}
use Rattle.group_locks.specs.Taken.{EventsMove}
use Rattle.group_locks.proofs.Moved.{run_on}

never : (b : Bool) → b ≡ false → b ≡ true → ⊥
never b isnt is = cc

-- where none is handed over, none needs claims
none_handed : (old new : CrewState) → HandsNoneOver old new → FindsClaims old new
none_handed old new none w stands = record {
  world = w;
  stands = stands;
  adopted = λ at m n drive left place sent answered had made on hands. absurd (never (is_some (adopted_told made.makes.reached.resources.marks)) (none at m n drive left place sent answered had made on) hands);
}

-- a run goes on by the moves of an event
goes_on : (by : Whose) (old new : CrewState) (w : World) → StandsBeside old w → (m : Moves by old new w) → StandsBeside new m.world
goes_on by old new w stands m = record {
  moves = stands.moves ++ m.moves;
  run = subst (λ (z : ℕ). Run (λ c. entry_number (name_at c) z) start (stands.moves ++ m.moves) m.world) (sym m.entries)
      (run_on (entry_in old.facility.locks) start w m.world stands.moves m.moves stands.run m.run);
  tied = m.tied;
}

-- it stands beside such a world
record Reached (s : CrewState) : Type 0 where
  pub world : World
  pub stands : StandsBeside s world

is_safe : TiedAgree → (s : CrewState) → Reached s → IsSafe s
is_safe agree s here = record { world = here.world; stands = here.stands; agree = agree s here.world here.stands.tied }

found_in : (old mid new : CrewState) → mid ≡ old → HandsNoneOver old new → (here : Reached old) → Finds mid new
found_in old mid new same none here = subst (λ (z : CrewState). Finds z new) (sym same) (none_handed old new none here.world here.stands)

-- ---- what is ready
from_unlooked : {P : Type 0} → (parts : List (MemberPart P)) → map member_of (map unlooked parts) ≡ map member_of parts
from_unlooked [] = refl
from_unlooked (p ∷ parts) = ap (λ (ms : List Member). member_of p ∷ ms) (from_unlooked parts)

known_unlooked : {P : Type 0} → (parts : List (MemberPart P)) → map (λ (p : MemberPart P). p.known) (map unlooked parts) ≡ map (λ (p : MemberPart P). p.known) parts
known_unlooked [] = refl
known_unlooked (p ∷ parts) = ap (λ (ks : List (List ℕ)). p.known ∷ ks) (known_unlooked parts)

module _ {C D P : Type 0} (directory : C → Directory) (alive : D → Bool) (contents : D → Option Contents) (count : D → ℕ) where
  -- it may have been found again, and nothing else has changed
  looked_state : (old new : Group D C P) → IsLooked old new → crew_state directory new.crew ≡ crew_state directory old.crew
  looked_state old new l =
      let members : map member_of new.crew.parts.items ≡ map member_of old.crew.parts.items =
      sym (from_unlooked new.crew.parts.items) ∙ ap (λ (ps : List (MemberPart P)). map member_of ps) l.crew.parts ∙ from_unlooked old.crew.parts.items in
      let known : map (λ (p : MemberPart P). p.known) new.crew.parts.items ≡ map (λ (p : MemberPart P). p.known) old.crew.parts.items =
      sym (known_unlooked new.crew.parts.items) ∙ ap (λ (ps : List (MemberPart P)). map (λ (p : MemberPart P). p.known) ps) l.crew.parts ∙ known_unlooked old.crew.parts.items in
      ap (λ (z : Crew C P). crew_state directory z) l.crew.rest ∙ (λ i. record (crew_state directory old.crew) { members = members i; known = known i })

  -- ---- a fault is left from then on
  still_faulty : (old new : Group D C P) (event : ℕ) (why : RunFault) → Takes directory alive contents count old event new → old.fault ≡ Some why → new.fault ≡ Some why
  still_faulty old new event why taken is =
      let isnt : takes old event ≡ false = ap (λ (z : Option RunFault). not (is_some z) && is_ready_in old.crew event) is in
      ap (λ (z : Group D C P). z.fault) (taken.left isnt) ∙ is

  faulty_on : (events : List ℕ) (old new : Group D C P) (why : RunFault) → RunsFresh directory alive contents count old events new → old.fault ≡ Some why → new.fault ≡ Some why
  faulty_on [] old new why runs is = ap (λ (z : Group D C P). z.fault) runs.rest ∙ is
  faulty_on (event ∷ events) old new why runs is =
      let first = runs.1 in
      faulty_on events runs.0 new why runs.2 (still_faulty first.mid runs.0 event why first.takes (ap (λ (z : Group D C P). z.fault) first.looked.rest ∙ is))

  -- nothing was refused
  abbrev IsLawful : Group D C P → Type 0
  IsLawful group = (at : ℕ) → group.fault ≢ Some (fault.Unlawful at)

  lawful_before : (events : List ℕ) (old new : Group D C P) → RunsFresh directory alive contents count old events new → IsLawful new → IsLawful old
  lawful_before events old new runs lawful at e = lawful at (faulty_on events old new (fault.Unlawful at) runs e)

  -- ---- the start
  starts : StartsTied → (first : Group D C P) → IsFresh directory first → AreCounted (crew_state directory first.crew) → StandsBeside (crew_state directory first.crew) start
  starts law first fresh counted = record {
    moves = [];
    run = refl;
    tied = law (crew_state directory first.crew) (record {
      facility = fresh.facility;
      members = λ at. subst (λ (z : Option Member). IfSome z (IsDown first.crew.sizes.sizes)) (sym (slice_get-map member_of first.crew.parts.items at)) (fresh.members at);
      numbered = λ at. subst (λ (z : Option Member). IfSome z (λ m. m.id ≡ at + 1)) (sym (slice_get-map member_of first.crew.parts.items at)) (fresh.numbered at);
      count = counted.count;
      few = counted.few;
      agents = counted.agents;
    });
  }

  -- ---- all events
  event_goes : EventsMove P directory alive contents count → (old new : Group D C P) (event : ℕ) → Takes directory alive contents count old event new → IsLawful new → Finds (crew_state directory old.crew) (crew_state directory new.crew)
      → Reached (crew_state directory new.crew)
  event_goes law old new event taken lawful found =
      let go = law old new event found.world taken lawful found.stands.tied found.adopted in
      record { world = go.2.world; stands = goes_on go.0 (crew_state directory old.crew) (crew_state directory new.crew) found.world found.stands go.2 }

  goes : EventsMove P directory alive contents count → (events : List ℕ) (old new : Group D C P) (runs : RunsFresh directory alive contents count old events new)
      → AllEvents FindsClaims directory alive contents count old events new runs → IsLawful new → Reached (crew_state directory old.crew) → Reached (crew_state directory new.crew)
  goes law [] old new runs all lawful here = subst (λ (z : CrewState). Reached z) (sym (looked_state old new runs)) here
  goes law (event ∷ events) old new runs all lawful here =
      let first = runs.1 in
      let found : Finds (crew_state directory first.mid.crew) (crew_state directory runs.0.crew) =
      subst (λ (z : CrewState). Finds z (crew_state directory runs.0.crew)) (sym (looked_state old first.mid first.looked)) (all.0 here.world here.stands) in
      goes law events runs.0 new runs.2 all.1 lawful (event_goes law first.mid runs.0 event first.takes (lawful_before events runs.0 new runs.2 lawful) found)

  -- ---- with none handed over
  all_find : (events : List ℕ) (old new : Group D C P) (runs : RunsFresh directory alive contents count old events new)
      → AllEvents HandsNoneOver directory alive contents count old events new runs → AllEvents FindsClaims directory alive contents count old events new runs
  all_find [] old new runs all = tt
  all_find (event ∷ events) old new runs all = (none_handed (crew_state directory old.crew) (crew_state directory runs.0.crew) all.0, all_find events runs.0 new runs.2 all.1)

  -- ---- behind each event
  stays : TiedAgree → EventsMove P directory alive contents count → (events : List ℕ) (old new : Group D C P) (runs : RunsFresh directory alive contents count old events new)
      → Reached (crew_state directory old.crew) → StaysSafe HandsNoneOver directory alive contents count old events new runs
  stays agree law [] old new runs here =
      is_safe agree (crew_state directory new.crew) (subst (λ (z : CrewState). Reached z) (sym (looked_state old new runs)) here)
  stays agree law (event ∷ events) old new runs here = (
    is_safe agree (crew_state directory old.crew) here,
    λ lawful none.
        let first = runs.1 in
        stays agree law events runs.0 new runs.2
        (event_goes law first.mid runs.0 event first.takes lawful (found_in (crew_state directory old.crew) (crew_state directory first.mid.crew) (crew_state directory runs.0.crew) (looked_state old first.mid first.looked) none here)),
  )

pub record Facts : Type 0 where
  pub start : StartsTied
  pub agree : TiedAgree

pub runs_stand : {C D : Type 0} → (P : Type 0) (directory : C → Directory) (alive : D → Bool) (contents : D → Option Contents) (count : D → ℕ) → Facts → EventsMove P directory alive contents count → RunsStand P directory alive contents count
runs_stand {C} {D} P directory alive contents count facts law first events last fresh counted runs all lawful =
    let begun = starts directory alive contents count facts.start first fresh counted in
    let reached = goes directory alive contents count law events first last runs all lawful (record { world = start; stands = begun }) in
    record { world = reached.world; stands = reached.stands; agree = facts.agree (crew_state directory last.crew) reached.world reached.stands.tied }

pub plain_runs_stand : {C D : Type 0} → (P : Type 0) (directory : C → Directory) (alive : D → Bool) (contents : D → Option Contents) (count : D → ℕ) → Facts → EventsMove P directory alive contents count → PlainRunsStand P directory alive contents count
plain_runs_stand {C} {D} P directory alive contents count facts law first events last fresh counted runs none lawful =
    runs_stand P directory alive contents count facts law first events last fresh counted runs (all_find directory alive contents count events first last runs none) lawful

pub plain_runs_stay : {C D : Type 0} → (P : Type 0) (directory : C → Directory) (alive : D → Bool) (contents : D → Option Contents) (count : D → ℕ) → Facts → EventsMove P directory alive contents count → PlainRunsStay P directory alive contents count
plain_runs_stay {C} {D} P directory alive contents count facts law first events last fresh counted runs =
    stays directory alive contents count facts.agree law events first last runs (record { world = start; stands = starts directory alive contents count facts.start first fresh counted })
