-- Any event of a group, by whose it is.
use Rattle.std.proofs.Common.{◌≡◌, ℕ, zero, suc, ◌+◌, ◌≤◌, refl, sym, ◌∙◌, ap, subst, arith, Bool, true, false, inl, inr, List, [], ◌∷◌, length, Option, Some, None}
use Rattle.std.specs.Prelude.{◌≢◌, ◌⊎◌, ◌-◌, ◌*◌, ◌/◌, ◌%◌, ◌==◌, ◌||◌, not, if◌then◌else◌, IfSome, IsSomeAnd, is_some, map, slice_get}
use Rattle.std.proofs.lemmas.Bool.{and_parts, cases_Bool, cases_eq, eqb-true}
use Rattle.std.proofs.lemmas.Nat.{div-add-mod'}
use Rattle.std.proofs.lemmas.Option.{slice_get-map}
use Rattle.ds_disk.specs.Contents.{Contents}
use Rattle.ds_model.specs.declared.script.Phase.{Phase}
use Rattle.ds_model.specs.declared.script.Script.{Script}
use Rattle.cache_structure.specs.Directory.{Directory}
use Rattle.list_structure.specs.declared.standing.MemberStatus.{MemberStatus}
use Rattle.list_structure.specs.declared.standing.MemberStatus.TheVariants as status
use Rattle.list_structure.specs.Standings.{is_live, status_of}
use Rattle.facility.specs.States.{Held as Facility, MemberFailed}
use Rattle.member_resources.specs.Events.{World as Resources, world_of}
use Rattle.script_fates.specs.Fated.{FatesState}
use Rattle.script_phases.specs.declared.progress.Progress.{Progress}
use Rattle.script_phases.specs.Progresses.{has_groupfail, has_phase, own_choice}
use Rattle.group_restart.specs.Machine.{Restart}
use Rattle.group_restart.specs.declared.calls.State.{State}
use Rattle.group_restart.specs.declared.calls.State.TheVariants as state
use Rattle.group_member.specs.declared.part.MemberPart.{MemberPart}
use Rattle.group_member.specs.declared.stepped.Stepped.{Stepped}
use Rattle.group_member.specs.declared.stepped.Stepped.TheVariants as steps
use Rattle.group_member.specs.Happening.{Comes, Steps}
use Rattle.group_member.specs.Members.{Member, member_of}
use Rattle.group_member.specs.Stepping.{is_failure, is_over}
use Rattle.group_core.specs.Given.{PhaseBegins}
use Rattle.group_core.specs.Given.{GroupFails, fail_counted}
use Rattle.group_core.specs.Given.{ComesAt, member_at}
use Rattle.group_core.specs.Given.{is_ready_in}
use Rattle.group_core.specs.Given.{is_own, ready_for}
use Rattle.group_core.specs.Given.{CrewState, crew_state}
use Rattle.group_core.specs.declared.fault.RunFault.{RunFault}
use Rattle.group_core.specs.declared.fault.RunFault.TheVariants as fault
use Rattle.group_core.specs.declared.group.Group.{Group}
use Rattle.group_core.specs.Events.{takes}
use Rattle.group_core.specs.Restarts.{EntersRestart, RestartSteps}
use Rattle.group_core.specs.Takes.{BeginsOrNot, IsMade, TakesMember, TakesOwn}
use Rattle.lock_protocol.specs.Machine.{World}
use Rattle.group_locks.specs.Events.{AreBy, IsFor, Moves, OfGroup, OfMember, OfPhase, Whose}
use Rattle.group_locks.specs.Members.{MemberStepsMoves}
use Rattle.group_locks.specs.Phases.{PhasesMove}
use Rattle.group_locks.specs.Resting.{RestingStepsMove}
use Rattle.group_locks.specs.Restarts.{RestartStepsMove}
use Rattle.group_locks.specs.Stands.{LocksTied, MemberStands}
use Rattle.group_locks.specs.Taken.{AdoptedClaim, EventsMove}
use Rattle.group_locks.specs.Whole.{AnewMoves, GroupFailsTied, MemberFailsMoves}

pub record Facts : Type 0 where
  pub fails : GroupFailsTied
  pub anew : AnewMoves
  pub phases : PhasesMove
  pub member_fails : MemberFailsMoves
  pub steps : MemberStepsMoves
  pub restarts : RestartStepsMove
  pub resting : RestingStepsMove

never : true ≡ false → ⊥
never e = cc

-- ---- no move
none_by : (by : Whose) → AreBy by []
none_by (OfMember m) = tt
none_by OfPhase = tt
none_by OfGroup = tt

stays : (by : Whose) (old new : CrewState) (w : World) → length new.facility.locks.entries ≡ length old.facility.locks.entries → LocksTied new w → Moves by old new w
stays by old new w entries t = record { entries = entries; moves = []; are = none_by by; world = w; run = refl; tied = t }

as_it_was : (by : Whose) (old new : CrewState) (w : World) → new ≡ old → LocksTied old w → Moves by old new w
as_it_was by old new w e t = stays by old new w (ap (λ (z : CrewState). length z.facility.locks.entries) e) (subst (λ (z : CrewState). LocksTied z w) (sym e) t)

-- ---- what the locks don't depend on
with_restart : (s : CrewState) (x : Option Restart) (w : World) → LocksTied s w → LocksTied (record s { restart = x }) w
with_restart s x w t = record { sound = t.sound; tied = t.tied; count = t.count; few = t.few; agents = t.agents; entries = t.entries; stands = t.stands }

with_fates : (s : CrewState) (f : FatesState) (w : World) → LocksTied s w → LocksTied (record s { fates = f }) w
with_fates s f w t = record { sound = t.sound; tied = t.tied; count = t.count; few = t.few; agents = t.agents; entries = t.entries; stands = t.stands }

counted : (s : CrewState) (w : World) → LocksTied s w → LocksTied (fail_counted s) w
counted s w t = record { sound = t.sound; tied = t.tied; count = t.count; few = t.few; agents = t.agents; entries = t.entries; stands = t.stands }

from_restart : (by : Whose) (old new : CrewState) (x : Option Restart) (w : World) → Moves by (record old { restart = x }) new w → Moves by old new w
from_restart by old new x w m = record { entries = m.entries; moves = m.moves; are = m.are; world = m.world; run = m.run; tied = m.tied }

-- ---- which events are the group's own
own_is : (choice : ℕ) (o : Option ℕ) (k : ℕ) → o ≡ Some k → is_own o choice ≡ true → choice ≡ k
own_is choice o k e is = let same : (k == choice) ≡ true = ap (λ (z : Option ℕ). is_own z choice) (sym e) ∙ is in sym (eqb-true k choice same)

own_choices : (r : Bool) (p : Progress) (script : Script) (choice : ℕ) → is_own (own_choice r p script) choice ≡ true → (choice ≡ 0) ⊎ ((choice ≡ 1) ⊎ ((choice ≡ 2) × (r ≡ true)))
own_choices true p script choice e = inr (inr (own_is choice (Some 2) 2 refl e, refl))
own_choices false p script choice e = by p.is_idle (has_groupfail p script) (has_phase p script) e
  where
    by : (a b c : Bool) → is_own (if a then (if b then Some 1 else (if c then Some 0 else None)) else None) choice ≡ true → (choice ≡ 0) ⊎ ((choice ≡ 1) ⊎ ((choice ≡ 2) × (false ≡ true)))
    by true true c e = inr (inl (own_is choice (Some 1) 1 refl e))
    by true false true e = inl (own_is choice (Some 0) 0 refl e)
    by true false false e = absurd (never (sym e))
    by false b c e = absurd (never (sym e))

-- the number of such an event
own_number : (event choice : ℕ) → event % 64 ≡ 0 → event / 64 ≡ choice → event ≡ choice * 64
own_number event choice rest is =
    let whole : event / 64 * 64 + event % 64 ≡ event = div-add-mod' event 64 in
    let same : event / 64 * 64 ≡ choice * 64 = ap (λ z. z * 64) is in
    omega (arith, whole, same, rest)

-- ---- the group restart makes a call
enters : Facts → (s : State) (why : Option RunFault) (old new : CrewState) (w : World) → LocksTied old w → EntersRestart s why old new → Moves OfGroup old new w
enters facts state.Going why old new w t e = as_it_was OfGroup old new w e.1 t
enters facts (state.Done counter) why old new w t e = facts.anew old new counter w t e.1
enters facts (state.Damaged volume at) why old new w t e = as_it_was OfGroup old new w e.1 t
enters facts state.Failed why old new w t e = stays OfGroup old new w (ap (λ (z : CrewState). length z.facility.locks.entries) e.2) (subst (λ (z : CrewState). LocksTied z w) (sym e.2) (with_fates old new.fates w t))

-- ---- members by their places
some_at : {A : Type 0} → (xs ys : List A) → ((k : ℕ) → is_some (slice_get xs k) ≡ is_some (slice_get ys k)) → length xs ≡ length ys
some_at [] [] each = refl
some_at [] (y ∷ ys) each = absurd (never (sym (each 0)))
some_at (x ∷ xs) [] each = absurd (never (each 0))
some_at (x ∷ xs) (y ∷ ys) each = ap suc (some_at xs ys (λ k. each (suc k)))

live_cases : (s : MemberStatus) → is_live s ≡ true → (s ≡ status.Up) ⊎ (s ≡ status.Restarting)
live_cases status.Down e = absurd (never (sym e))
live_cases status.Up e = inl refl
live_cases status.Failed e = absurd (never (sym e))
live_cases status.Restarting e = inr refl

unfailed : (b : Bool) → (b || false) ≡ false → b ≡ false
unfailed true e = e
unfailed false e = refl

-- ---- the event of a member
record At (old new : CrewState) (at : ℕ) (m n : Member) : Type 0 where
  pub had : slice_get old.members at ≡ Some m
  pub has : slice_get new.members at ≡ Some n
  pub count : length new.members ≡ length old.members
  pub others : (k : ℕ) → k ≢ at → slice_get new.members k ≡ slice_get old.members k
  pub sizes : new.sizes ≡ old.sizes

module _ (facts : Facts) (old new : CrewState) (w : World) (t : LocksTied old w) (adopted : AdoptedClaim old new w) (at : ℕ) (m n : Member) (here : At old new at m n) (u v : Resources) (place : ℕ) where
  restarting : (stepped : Stepped) → u.facility ≡ old.facility → v.facility ≡ new.facility → status_of old.facility.lists.statuses m.id ≡ status.Restarting → is_over stepped ≡ false
      → Steps m (record { facility = old.facility; drive = u.drive }) old.fates place stepped n (record { facility = new.facility; drive = v.drive }) new.fates → Moves (OfMember m.id) old new w
  restarting (steps.Restart sent answered) f g standing over made = (facts.restarts old new at m n w t (record {
    had = here.had;
    has = here.has;
    count = here.count;
    others = here.others;
    sizes = here.sizes;
    restarting = standing;
    drive = u.drive;
    left = v.drive;
    place = place;
    sent = sent;
    answered = answered;
    unfailed = unfailed (is_failure answered) over;
    made = made;
    opened = adopted at m n u.drive v.drive place sent answered here.had made;
  })).moves
  restarting (steps.Sent sent answered) f g standing over made = (facts.resting old new at m n w t (record {
    had = here.had;
    has = here.has;
    count = here.count;
    others = here.others;
    sizes = here.sizes;
    restarting = standing;
    drive = u.drive;
    left = v.drive;
    place = place;
    stepped = steps.Sent sent answered;
    other = refl;
    made = made;
  })).moves
  restarting (steps.Rebuild sent answered) f g standing over made = (facts.resting old new at m n w t (record {
    had = here.had;
    has = here.has;
    count = here.count;
    others = here.others;
    sizes = here.sizes;
    restarting = standing;
    drive = u.drive;
    left = v.drive;
    place = place;
    stepped = steps.Rebuild sent answered;
    other = refl;
    made = made;
  })).moves
  restarting steps.Failed f g standing over made = absurd (never over)

  -- by its standing
  goes : (stepped : Stepped) → u.facility ≡ old.facility → v.facility ≡ new.facility → is_over stepped ≡ false → (status_of old.facility.lists.statuses m.id ≡ status.Up) ⊎ (status_of old.facility.lists.statuses m.id ≡ status.Restarting)
      → Steps m (record { facility = old.facility; drive = u.drive }) old.fates place stepped n (record { facility = new.facility; drive = v.drive }) new.fates → Moves (OfMember m.id) old new w
  goes stepped f g over (inr standing) made = restarting stepped f g standing over made
  goes stepped f g over (inl standing) made = facts.steps old new at m n w t (record {
    had = here.had;
    has = here.has;
    count = here.count;
    others = here.others;
    sizes = here.sizes;
    up = standing;
    drive = u.drive;
    left = v.drive;
    place = place;
    stepped = stepped;
    steps = made;
  })

  comes : (script : Script) (begun choice : ℕ) (stepped : Stepped) → u ≡ record { facility = old.facility; drive = u.drive } → v ≡ record { facility = new.facility; drive = v.drive }
      → Comes script begun old.sizes choice m u old.fates place stepped n v new.fates → Moves (OfMember m.id) old new w
  comes script begun choice stepped f g c = elim (cases_Bool (is_over stepped)) [
    | inr on ↦ goes stepped (ap (λ (z : Resources). z.facility) f) (ap (λ (z : Resources). z.facility) g) on (live_cases (status_of old.facility.lists.statuses m.id) live)
        (subst (λ (z : Resources). Steps m z old.fates place stepped n (record { facility = new.facility; drive = v.drive }) new.fates) f (subst (λ (z : Resources). Steps m u old.fates place stepped n z new.fates) g (c.steps on)))
    | inl over ↦ facts.member_fails old new at m n w t (record {
      had = here.had;
      has = here.has;
      count = here.count;
      others = here.others;
      same = c.same;
      down = c.down over;
      failed = subst (λ (z : Facility). MemberFailed z m.id new.facility) (ap (λ (z : Resources). z.facility) f) (subst (λ (z : Facility). MemberFailed u.facility m.id z) (ap (λ (z : Resources). z.facility) g) (c.fails over));
      sizes = here.sizes;
    })
  ]
    where
      live : is_live (status_of old.facility.lists.statuses m.id) ≡ true
      live = subst (λ (z : Facility). is_live (status_of z.lists.statuses m.id) ≡ true) (ap (λ (z : Resources). z.facility) f) c.live

above_zero : (n : ℕ) → n ≢ 0 → 1 ≤ n
above_zero zero ne = absurd (ne refl)
above_zero (suc n) ne = omega arith

-- ---- any event
pub events_move : {C D : Type 0} → (P : Type 0) (directory : C → Directory) (alive : D → Bool) (contents : D → Option Contents) (count : D → ℕ) → Facts → EventsMove P directory alive contents count
events_move {C} {D} P directory alive contents count facts old new event w taken lawful t adopted = elim (cases_Bool (takes old event)) [
  | inr isnt ↦ elim (cases_eq (event % 64) 0) [
    | inl own ↦ (OfPhase, own, as_it_was OfPhase before after w (unmoved isnt) t)
    | inr member ↦ (OfMember (event % 64), refl, as_it_was (OfMember (event % 64)) before after w (unmoved isnt) t)
  ]
  | inl is ↦ elim (cases_eq (event % 64) 0) [
    | inl own ↦ own_goes (taken.own is own) (own_choices (is_some old.crew.restart) old.crew.progress old.crew.script (event / 64) (ready is own)) own
    | inr member ↦ member_takes member new.fault refl (taken.member is member)
  ]
]
  where
    before : CrewState
    before = crew_state directory old.crew

    after : CrewState
    after = crew_state directory new.crew

    unmoved : takes old event ≡ false → after ≡ before
    unmoved isnt = ap (λ (z : Group D C P). crew_state directory z.crew) (taken.left isnt)

    ready : takes old event ≡ true → event % 64 ≡ 0 → is_own (own_choice (is_some old.crew.restart) old.crew.progress old.crew.script) (event / 64) ≡ true
    ready is own = subst (λ z. ready_for (is_some old.crew.restart) (own_choice (is_some old.crew.restart) old.crew.progress old.crew.script) (map (λ (p : MemberPart P). p.ready) old.crew.parts.items) z (event / 64) ≡ true) own
        (and_parts (not (is_some old.fault)) (is_ready_in old.crew event) is).1

    next_phase : (x : Option Phase) → IsSomeAnd x (λ phase. PhaseBegins phase before after) → Moves OfPhase before after w
    next_phase None h = absurd h
    next_phase (Some phase) h = facts.phases phase before after w t h

    begins : (why : Option RunFault) → new.fault ≡ why → BeginsOrNot directory why old.crew event (length new.journal.items) new.crew → Moves OfPhase before after w
    begins None left e = next_phase (slice_get before.script.phases before.begun) e
    begins (Some (fault.Unlawful place)) left e = absurd (lawful place left)
    begins (Some fault.Failed) left e = absurd e
    begins (Some (fault.Damaged volume offset)) left e = absurd e
    begins (Some fault.NoMemory) left e = absurd e

    restarts : (x : Option Restart) → is_some x ≡ true → IfSome x (λ restart. RestartSteps alive contents new.fault before restart old.disk after new.disk) → Moves OfGroup before after w
    restarts None there h = absurd (never (sym there))
    restarts (Some restart) there h = from_restart OfGroup before after (Some h.now) w (enters facts h.reached new.fault (record before { restart = Some h.now }) after w (with_restart before (Some h.now) w t) h.enters)

    own_goes : TakesOwn directory alive contents new.fault old.crew old.disk event (length new.journal.items) taken.failed new.crew new.disk → (event / 64 ≡ 0) ⊎ ((event / 64 ≡ 1) ⊎ ((event / 64 ≡ 2) × (is_some old.crew.restart ≡ true))) → event % 64 ≡ 0 → (by : Whose) × IsFor event by × Moves by before after w
    own_goes e (inl first) own = (OfPhase, own, begins new.fault refl (e.begins (own_number event 0 own first)))
    own_goes e (inr (inl second)) own =
        let fails : GroupFails (fail_counted before) after = (e.fails (own_number event 1 own second)).1 in
        (OfPhase, own, stays OfPhase before after w (ap (λ (z : CrewState). length z.facility.locks.entries) fails.rest) (facts.fails (fail_counted before) after w fails (counted before w t)))
    own_goes e (inr (inr third)) own = (OfGroup, own_number event 2 own third.0, restarts old.crew.restart third.1 (e.goes (own_number event 2 own third.0)))

    at : ℕ
    at = event % 64 - 1

    old_at : (k : ℕ) → slice_get before.members k ≡ member_at old.crew.parts.items k
    old_at k = slice_get-map member_of old.crew.parts.items k

    new_at : (k : ℕ) → slice_get after.members k ≡ member_at new.crew.parts.items k
    new_at k = slice_get-map member_of new.crew.parts.items k

    member_goes : event % 64 ≢ 0 → IsMade directory alive contents old.crew old.disk at (event / 64) (length new.journal.items) taken.failed new.crew new.disk → (by : Whose) × IsFor event by × Moves by before after w
    member_goes member e = by (member_at old.crew.parts.items at) (member_at new.crew.parts.items at) (old_at at) (new_at at) e.steps.comes
      where
        u : Resources
        u = world_of directory alive contents old.crew.facility old.disk

        v : Resources
        v = world_of directory alive contents new.crew.facility new.disk

        others : (k : ℕ) → k ≢ at → slice_get after.members k ≡ slice_get before.members k
        others k ne = new_at k ∙ e.steps.others k ne ∙ sym (old_at k)

        by : (x y : Option Member) → slice_get before.members at ≡ x → slice_get after.members at ≡ y
            → ComesAt old.crew.script old.crew.progress.begun old.crew.sizes.sizes (event / 64) x u before.fates (length new.journal.items) e.stepped y v after.fates → (by : Whose) × IsFor event by × Moves by before after w
        by None y had has c = absurd c
        by (Some m) None had has c = absurd c
        by (Some m) (Some n) had has c = (
          OfMember m.id,
          number,
          comes facts before after w t adopted at m n (record {
            had = had;
            has = has;
            count = some_at after.members before.members each;
            others = others;
            sizes = ap (λ z. z.sizes) e.steps.sizes;
          }) u v (length new.journal.items) old.crew.script old.crew.progress.begun (event / 64) e.stepped refl refl c,
        )
          where
            stood : m.id ≡ at + 1
            stood = (subst (λ (z : Option Member). IfSome z (MemberStands before.facility (at + 1))) had (t.stands at)).id

            number : m.id ≡ event % 64
            number = (let one = above_zero (event % 64) member in omega (arith, stood, one))

            each : (k : ℕ) → is_some (slice_get after.members k) ≡ is_some (slice_get before.members k)
            each k = elim (cases_eq k at) [
              | inl same ↦ subst (λ z. is_some (slice_get after.members z) ≡ is_some (slice_get before.members z)) (sym same) (ap (λ (z : Option Member). is_some z) has ∙ sym (ap (λ (z : Option Member). is_some z) had))
              | inr ne ↦ ap (λ (z : Option Member). is_some z) (others k ne)
            ]

    member_takes : event % 64 ≢ 0 → (why : Option RunFault) → new.fault ≡ why → TakesMember directory alive contents why old.crew old.disk at (event / 64) (length new.journal.items) taken.failed new.crew new.disk → (by : Whose) × IsFor event by × Moves by before after w
    member_takes member None left e = member_goes member e
    member_takes member (Some (fault.Damaged volume offset)) left e = member_goes member e
    member_takes member (Some (fault.Unlawful refused)) left e = absurd (lawful refused left)
    member_takes member (Some fault.Failed) left e = absurd e
    member_takes member (Some fault.NoMemory) left e = absurd e
