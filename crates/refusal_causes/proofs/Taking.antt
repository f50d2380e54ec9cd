-- What an event of a group refuses.
use Rattle.std.proofs.Common.{◌≡◌, ◌⊎◌, inl, inr, ℕ, ◌*◌, ◌-◌, ◌/◌, ◌%◌, Bool, true, false, not, ◌&&◌, length, map, Option, Some, None, is_some, refl, sym, ap, subst, arith}
use Rattle.std.specs.Prelude.{IfSome, IsSomeAnd, slice_get, if◌then◌else◌}
use Rattle.std.proofs.lemmas.Bool.{and_parts, cases_Bool, cases_eq, eqb-true}
use Rattle.ds_base.specs.declared.names.Sizes.{Sizes}
use Rattle.ds_disk.specs.Contents.{Contents}
use Rattle.ds_model.specs.declared.fate.Refusal.{Refusal}
use Rattle.ds_model.specs.declared.script.Phase.{Phase}
use Rattle.ds_model.specs.declared.script.Script.{Script}
use Rattle.cache_structure.specs.Directory.{Directory}
use Rattle.member_resources.specs.Events.{World, world_of}
use Rattle.needs_law.specs.Lawful.{SendsLawfully}
use Rattle.script_fates.specs.Fated.{FatesState, is_in_phase}
use Rattle.script_phases.specs.declared.progress.Progress.{Progress}
use Rattle.script_phases.specs.Progresses.{choice_next, has_groupfail, has_phase, own_choice}
use Rattle.group_restart.specs.Machine.{Restart}
use Rattle.group_restart.specs.declared.calls.State.{State}
use Rattle.group_restart.specs.declared.calls.State.TheVariants as state
use Rattle.group_member.specs.declared.stepped.Stepped.{Stepped}
use Rattle.group_member.specs.Members.{Member}
use Rattle.group_core.specs.Given.{Crew}
use Rattle.group_core.specs.Given.{BeginsNext, PhaseBegins, is_left_out_in}
use Rattle.group_core.specs.Given.{is_ready_in}
use Rattle.group_core.specs.Given.{StopsLast, last_begun}
use Rattle.group_core.specs.Given.{ComesAt, member_at}
use Rattle.group_core.specs.Given.{is_own, ready_for}
use Rattle.group_core.specs.Given.{CrewState, crew_state}
use Rattle.group_core.specs.declared.fault.RunFault.{RunFault}
use Rattle.group_core.specs.declared.fault.RunFault.TheVariants as fault
use Rattle.group_core.specs.declared.group.Group.{Group}
use Rattle.group_core.specs.Events.{is_taken, takes}
use Rattle.group_core.specs.Restarts.{EntersRestart, RestartSteps}
use Rattle.group_core.specs.Takes.{BeginsOrNot, IsMade, Takes, TakesMember, TakesOwn}
use Rattle.refusal_causes.specs.Laws.{is_lawful}
use Rattle.refusal_causes.specs.Moments.{AllCaused, HoldsAt, Passes, world_in}
use Rattle.refusal_causes.proofs.Events.{Closed, comes_known}
use Rattle.refusal_causes.proofs.Fates.{stops_known, stops_only_known}
use Rattle.refusal_causes.proofs.Known.{Claim}

-- ---- which event of the group itself it is

next_choice : (idle fails has : Bool) (choice : ℕ) → is_own (if idle then (if fails then Some 1 else (if has then Some 0 else None)) else None) choice ≡ true → (choice ≡ 0) ⊎ (choice ≡ 1)
next_choice true true has choice e = inr (sym (eqb-true 1 choice e))
next_choice true false true choice e = inl (sym (eqb-true 0 choice e))
next_choice true false false choice e = cc
next_choice false fails has choice e = cc

-- the begin of a phase, a failure of the group, or the next call of a group restart
pub data Own (restarts : Bool) (choice : ℕ) : Type 0 where
  Begins : choice ≡ 0 → Own restarts choice
  Fails : choice ≡ 1 → Own restarts choice
  Goes : restarts ≡ true → choice ≡ 2 → Own restarts choice

own_next : (restarts : Bool) (choice : ℕ) → (choice ≡ 0) ⊎ (choice ≡ 1) → Own restarts choice
own_next restarts choice (inl e) = Begins e
own_next restarts choice (inr e) = Fails e

own_is : (restarts : Bool) (p : Progress) (script : Script) (choice : ℕ) → is_own (own_choice restarts p script) choice ≡ true → Own restarts choice
own_is true p script choice e = Goes refl (sym (eqb-true 2 choice e))
own_is false p script choice e = own_next false choice (next_choice p.is_idle (has_groupfail p script) (has_phase p script) choice e)

pub own_event : {C P : Type 0} (crew : Crew C P) (event : ℕ) → event % 64 ≡ 0 → is_ready_in crew event ≡ true → Own (is_some crew.restart) (event / 64)
own_event {C} {P} crew event own ready =
    own_is (is_some crew.restart) crew.progress crew.script (event / 64)
    (subst (λ (who : ℕ). ready_for (is_some crew.restart) (own_choice (is_some crew.restart) crew.progress crew.script) (map (λ p. p.ready) crew.parts.items) who (event / 64) ≡ true) own ready)

pub event_of : (event choice : ℕ) → event % 64 ≡ 0 → event / 64 ≡ choice → event ≡ 64 * choice
event_of event choice a b = omega arith

-- ---- events of the group itself

phase_known : (K : Claim) (s t : CrewState) (o : Option Phase) → IsSomeAnd o (λ phase. PhaseBegins phase s t) → AllCaused K s.fates → AllCaused K t.fates
phase_known K s t None b known = absurd b
phase_known K s t (Some phase) b known = stops_only_known K (is_left_out_in phase s.facility.lists.statuses) s.fates t.fates b.stopped known

last_known : (K : Claim) (f g : FatesState) (o : Option Phase) → StopsLast o f g → AllCaused K f → AllCaused K g
last_known K f g None s known = subst (AllCaused K) (sym s) known
last_known K f g (Some phase) s known = stops_only_known K (is_in_phase phase) f g s known

enters_known : (K : Claim) (s t : CrewState) (why : Option RunFault) (reached : State) → EntersRestart reached why s t → AllCaused K s.fates → AllCaused K t.fates
enters_known K s t why state.Going e known = subst (AllCaused K) (sym (ap (λ (x : CrewState). x.fates) e.1)) known
enters_known K s t why (state.Done counter) e known = subst (AllCaused K) (sym (ap (λ (x : CrewState). x.fates) e.1.rest)) known
enters_known K s t why (state.Damaged volume at) e known = subst (AllCaused K) (sym (ap (λ (x : CrewState). x.fates) e.1)) known
enters_known K s t why state.Failed e known = stops_known K s.fates t.fates e.1 known

-- ---- the event of a member

at_known : SendsLawfully → (K : Claim) (script : Script) (begun : ℕ) (sizes : Sizes) (choice place : ℕ) (w v : World) (f g : FatesState) (stepped : Stepped) (m n : Option Member) → ((a b : Member) → m ≡ Some a → n ≡ Some b → Closed K a w place v b) → ComesAt script begun sizes choice m w f place stepped n v g → AllCaused K f → AllCaused K g
at_known law K script begun sizes choice place w v f g stepped None n closed c known = absurd c
at_known law K script begun sizes choice place w v f g stepped (Some m) None closed c known = absurd c
at_known law K script begun sizes choice place w v f g stepped (Some m) (Some n) closed c known =
    comes_known law K m w place v n (closed m n refl refl) script begun sizes choice stepped f g c known

-- ---- in a group

module _ {C D P : Type 0} (directory : C → Directory) (alive : D → Bool) (contents : D → Option Contents) (K : Claim) where
  begins_known : (why : Option RunFault) (old : Crew C P) (event place : ℕ) (new : Crew C P) → BeginsOrNot directory why old event place new → is_lawful why ≡ true → AllCaused K old.fates → AllCaused K new.fates
  begins_known None old event place new b lawful known =
      phase_known K (crew_state directory old) (crew_state directory new) (slice_get old.script.phases old.progress.begun) b known
  begins_known (Some fault.Failed) old event place new b lawful known = absurd b
  begins_known (Some (fault.Damaged volume at)) old event place new b lawful known = absurd b
  begins_known (Some (fault.Unlawful refused)) old event place new b lawful known = cc
  begins_known (Some fault.NoMemory) old event place new b lawful known = absurd b

  goes_known : (why : Option RunFault) (old : Crew C P) (disk : D) (new : Crew C P) (left : D) (restart : Option Restart) → is_some restart ≡ true → IfSome restart (λ r. RestartSteps alive contents why (crew_state directory old) r disk (crew_state directory new) left) → AllCaused K old.fates → AllCaused K new.fates
  goes_known why old disk new left None has steps known = cc
  goes_known why old disk new left (Some r) has steps known =
      enters_known K (record (crew_state directory old) { restart = Some steps.now }) (crew_state directory new) why steps.reached steps.enters known

  own_known : (why : Option RunFault) (old : Crew C P) (disk : D) (event place : ℕ) (failed : Bool) (new : Crew C P) (left : D) → TakesOwn directory alive contents why old disk event place failed new left → event % 64 ≡ 0 → Own (is_some old.restart) (event / 64) → is_lawful why ≡ true → AllCaused K old.fates → AllCaused K new.fates
  own_known why old disk event place failed new left t own (Begins e) lawful known =
      begins_known why old event place new (t.begins (event_of event 0 own e)) lawful known
  own_known why old disk event place failed new left t own (Fails e) lawful known =
      last_known K old.fates new.fates (last_begun old.script old.progress.begun) (t.fails (event_of event 1 own e)).1.stopped known
  own_known why old disk event place failed new left t own (Goes restarts e) lawful known =
      goes_known why old disk new left old.restart restarts (t.goes (event_of event 2 own e)) known

  -- ---- events of members

  made_known : SendsLawfully → (old : Crew C P) (disk : D) (at choice place : ℕ) (failed : Bool) (new : Crew C P) (left : D) → ((a b : Member) → member_at old.parts.items at ≡ Some a → member_at new.parts.items at ≡ Some b → Closed K a (world_of directory alive contents old.facility disk) place (world_of directory alive contents new.facility left) b) → IsMade directory alive contents old disk at choice place failed new left → AllCaused K old.fates → AllCaused K new.fates
  made_known law old disk at choice place failed new left closed made known =
      at_known law K old.script old.progress.begun old.sizes.sizes choice place (world_of directory alive contents old.facility disk) (world_of directory alive contents new.facility left) old.fates new.fates made.stepped (member_at old.parts.items at) (member_at new.parts.items at) closed made.steps.comes known

  member_known : SendsLawfully → (why : Option RunFault) (old : Crew C P) (disk : D) (at choice place : ℕ) (failed : Bool) (new : Crew C P) (left : D) → ((a b : Member) → member_at old.parts.items at ≡ Some a → member_at new.parts.items at ≡ Some b → Closed K a (world_of directory alive contents old.facility disk) place (world_of directory alive contents new.facility left) b) → TakesMember directory alive contents why old disk at choice place failed new left → is_lawful why ≡ true → AllCaused K old.fates → AllCaused K new.fates
  member_known law None old disk at choice place failed new left closed t lawful known = made_known law old disk at choice place failed new left closed t known
  member_known law (Some (fault.Damaged volume offset)) old disk at choice place failed new left closed t lawful known = made_known law old disk at choice place failed new left closed t known
  member_known law (Some (fault.Unlawful refused)) old disk at choice place failed new left closed t lawful known = cc
  member_known law (Some fault.Failed) old disk at choice place failed new left closed t lawful known = absurd t
  member_known law (Some fault.NoMemory) old disk at choice place failed new left closed t lawful known = absurd t

-- ---- any event

-- the fates of a group are known, unless it has ended since what was wanted may not be done
abbrev pub GroupKnown : {C D P : Type 0} → Claim → Group D C P → Type 0
GroupKnown {C} {D} {P} K group = is_lawful group.fault ≡ true → AllCaused K group.crew.fates

pub unended : (why : Option RunFault) (ready : Bool) → (not (is_some why) && ready) ≡ true → is_lawful why ≡ true
unended None ready holds = refl
unended (Some why) ready holds = cc

module _ {C D P : Type 0} (directory : C → Directory) (alive : D → Bool) (contents : D → Option Contents) (count : D → ℕ) (law : SendsLawfully) (K : Claim) (old : Group D C P) (event : ℕ) (new : Group D C P) (closed : (number : ℕ) (why : Refusal) (named : ℕ) → HoldsAt directory alive contents old event new number why named → K number why named) (t : Takes directory alive contents count old event new) where
  closed_at : (a b : Member) → member_at old.crew.parts.items (event % 64 - 1) ≡ Some a → member_at new.crew.parts.items (event % 64 - 1) ≡ Some b → Closed K a (world_in directory alive contents old) (length new.journal.items) (world_in directory alive contents new) b
  closed_at a b was is number why named cause = closed number why named (record { before = a; after = b; was = was; is = is; cause = cause })

  taken : takes old event ≡ true → GroupKnown K old → GroupKnown K new
  taken is known lawful =
      let parts = and_parts _ _ is in
      let so_far : AllCaused K old.crew.fates = known (unended old.fault (is_ready_in old.crew event) is) in
      elim (cases_eq (event % 64) 0) [
        | inl own ↦ own_known directory alive contents K new.fault old.crew old.disk event (length new.journal.items) t.failed new.crew new.disk (t.own is own) own (own_event old.crew event own parts.1) lawful so_far
        | inr other ↦ member_known directory alive contents K law new.fault old.crew old.disk (event % 64 - 1) (event / 64) (length new.journal.items) t.failed new.crew new.disk closed_at (t.member is other) lawful so_far
      ]

  missed : takes old event ≡ false → GroupKnown K old → GroupKnown K new
  missed is known lawful =
      let e = t.left is in
      let before : AllCaused K old.crew.fates = known (subst (λ (why : Option RunFault). is_lawful why ≡ true) (ap (λ (g : Group D C P). g.fault) e) lawful) in
      subst (AllCaused K) (sym (ap (λ (g : Group D C P). g.crew.fates) e)) before

  -- where each cause that holds in the event is known, the fates behind it are
  pub takes_known : GroupKnown K old → GroupKnown K new
  takes_known known lawful = elim (cases_Bool (takes old event)) [
    | inl is ↦ taken is known lawful
    | inr is ↦ missed is known lawful
  ]
