-- Who has given the answers in cells, over a run.
use Rattle.std.proofs.Common.{◌≡◌, inl, inr, ℕ, ◌-◌, ◌/◌, ◌%◌, Bool, true, false, length, List, [], ◌∷◌, ◌++◌, Option, Some, None, is_some, refl, sym, ap, subst}
use Rattle.std.specs.Prelude.{IfSome, IsSomeAnd, slice_get}
use Rattle.std.proofs.lemmas.Bool.{and_parts, cases_Bool, cases_eq, or_parts}
use Rattle.ds_base.specs.declared.names.Sizes.{Sizes}
use Rattle.ds_disk.specs.Contents.{Contents}
use Rattle.ds_model.specs.declared.lock.Name.{Name}
use Rattle.ds_model.specs.declared.script.Phase.{Phase}
use Rattle.ds_model.specs.declared.script.Script.{Script}
use Rattle.cache_structure.specs.Directory.{Directory}
use Rattle.list_structure.specs.declared.query.Asker.{Asker}
use Rattle.lock_names.specs.declared.mode.Mode.{Mode}
use Rattle.list_structure.specs.declared.query.CellAnswer.{CellAnswer}
use Rattle.list_structure.specs.States.{ListsState}
use Rattle.facility.specs.States as facility
use Rattle.facility.specs.States.{MemberFailed, held}
use Rattle.member_resources.specs.Events.{World, world_of}
use Rattle.needs_law.specs.Lawful.{SendsLawfully}
use Rattle.script_fates.specs.Fated.{FatesState}
use Rattle.group_restart.specs.Machine.{Restart}
use Rattle.group_restart.specs.declared.calls.State.{State}
use Rattle.group_restart.specs.declared.calls.State.TheVariants as state
use Rattle.group_member.specs.declared.stepped.Stepped.{Stepped}
use Rattle.group_member.specs.declared.stepped.Stepped.TheVariants as steps
use Rattle.group_member.specs.Happening.{Comes, Makes, as_rebuilding, as_restarting}
use Rattle.group_member.specs.Members.{Member}
use Rattle.group_member.specs.Stepping.{is_over}
use Rattle.group_core.specs.Given.{Crew}
use Rattle.group_core.specs.Given.{AllRestart, PhaseBegins, begins_restart, lists_begun, restarting}
use Rattle.group_core.specs.Given.{is_ready_in}
use Rattle.group_core.specs.Given.{ComesAt, member_at}
use Rattle.group_core.specs.Given.{CrewState, crew_state}
use Rattle.group_core.specs.declared.fault.RunFault.{RunFault}
use Rattle.group_core.specs.declared.fault.RunFault.TheVariants as fault
use Rattle.group_core.specs.declared.group.Group.{Group}
use Rattle.group_core.specs.Events.{takes}
use Rattle.group_core.specs.Restarts.{EntersRestart, RestartSteps}
use Rattle.group_core.specs.Takes.{BeginsOrNot, IsMade, Takes, TakesMember, TakesOwn}
use Rattle.group_core.specs.Fresh.{IsLooked, RunsFresh}
use Rattle.refusal_causes.specs.Answers.{AnswersAt, Answered, AnswersGiven, AreGiven, Says}
use Rattle.refusal_causes.specs.Laws.{is_lawful}
use Rattle.refusal_causes.proofs.Cells.{Knowledge, failed_given, made_given}
use Rattle.refusal_causes.proofs.Either.{either}
use Rattle.refusal_causes.proofs.Giving.{Said, happens_given}
use Rattle.refusal_causes.proofs.Restarted.{restart_given, rebuild_given}
use Rattle.refusal_causes.proofs.Taking.{Own, Begins, Fails, Goes, own_event, event_of, unended}

abbrev Given : Knowledge → facility.Held → Type 0
Given K w = AreGiven K w.lists.cells

-- ---- events of members

makes_given : SendsLawfully → (K : Knowledge) (m : Member) (w : World) (place : ℕ) (v : World) (stepped : Stepped) (n : Member) → Said K m.holds.marks place → Makes m w place stepped v n → Given K w.facility → Given K v.facility
makes_given law K m w place v (steps.Sent sent answered) n said makes given = happens_given law K w v m.holds makes.after makes.intent place sent answered makes.happens said given
makes_given law K m w place v (steps.Restart sent answered) n said makes given =
    restart_given K (as_restarting w) (as_restarting v) makes.makes.before.resources makes.reached.resources sent answered makes.makes.happens given
makes_given law K m w place v (steps.Rebuild sent answered) n said makes given =
    rebuild_given K (as_rebuilding w) (as_rebuilding v) makes.makes.before.resources makes.reached.resources sent answered makes.makes.happens given
makes_given law K m w place v steps.Failed n said makes given = absurd makes

comes_by : SendsLawfully → (K : Knowledge) (script : Script) (begun : ℕ) (sizes : Sizes) (choice : ℕ) (m : Member) (w : World) (f : FatesState) (place : ℕ) (stepped : Stepped) (n : Member) (v : World) (g : FatesState) → Said K m.holds.marks place → Comes script begun sizes choice m w f place stepped n v g → (over : Bool) → is_over stepped ≡ over → Given K w.facility → Given K v.facility
comes_by law K script begun sizes choice m w f place stepped n v g said c true e given =
    failed_given K w.facility.lists.cells v.facility.lists.cells m.id (c.fails e).lists.cells given
comes_by law K script begun sizes choice m w f place stepped n v g said c false e given =
    let s = c.steps e in
    makes_given law K m w place v stepped s.mid said s.makes given

at_given : SendsLawfully → (K : Knowledge) (script : Script) (begun : ℕ) (sizes : Sizes) (choice : ℕ) (w : World) (f : FatesState) (place : ℕ) (stepped : Stepped) (v : World) (g : FatesState) (m n : Option Member) → ((a : Member) → m ≡ Some a → Said K a.holds.marks place) → ComesAt script begun sizes choice m w f place stepped n v g → Given K w.facility → Given K v.facility
at_given law K script begun sizes choice w f place stepped v g None n said c given = absurd c
at_given law K script begun sizes choice w f place stepped v g (Some m) None said c given = absurd c
at_given law K script begun sizes choice w f place stepped v g (Some m) (Some n) said c given =
    comes_by law K script begun sizes choice m w f place stepped n v g (said m refl) c (is_over stepped) refl given

-- ---- events of the group itself

restarts_given : (K : Knowledge) (phase : Phase) (lists : ListsState) (olds news : List Member) (now : ListsState) → AllRestart phase lists olds news now → AreGiven K lists.cells → AreGiven K now.cells
restarts_given K phase lists [] [] now r given = subst (λ (l : ListsState). AreGiven K l.cells) (sym r) given
restarts_given K phase lists [] (new ∷ news) now r given = absurd r
restarts_given K phase lists (old ∷ olds) [] now r given = absurd r
restarts_given K phase lists (old ∷ olds) (new ∷ news) now r given =
    restarts_given K phase (lists_begun phase lists old.id) olds news now r.1 (either (λ (l : ListsState). AreGiven K l.cells) (begins_restart phase lists.statuses old.id) _ _ given given)

phase_given : (K : Knowledge) (s t : CrewState) (o : Option Phase) → IsSomeAnd o (λ phase. PhaseBegins phase s t) → Given K s.facility → Given K t.facility
phase_given K s t None b given = absurd b
phase_given K s t (Some phase) b given =
    subst (Given K) (sym b.facility.others) (restarts_given K phase s.facility.lists s.members t.members b.lists b.restarts given)

enters_given : (K : Knowledge) (s t : CrewState) (why : Option RunFault) (reached : State) → EntersRestart reached why s t → Given K s.facility → Given K t.facility
enters_given K s t why state.Going e given = subst (Given K) (sym (ap (λ (x : CrewState). x.facility) e.1)) given
enters_given K s t why (state.Done counter) e given = made_given K t.facility.lists.cells e.1.facility.lists_new.cells
enters_given K s t why (state.Damaged volume at) e given = subst (Given K) (sym (ap (λ (x : CrewState). x.facility) e.1)) given
enters_given K s t why state.Failed e given = subst (Given K) (sym (ap (λ (x : CrewState). x.facility) e.2)) given

module _ {C D P : Type 0} (directory : C → Directory) (alive : D → Bool) (contents : D → Option Contents) (K : Knowledge) where
  abbrev GivenBy : Crew C P → Type 0
  GivenBy crew = Given K (held directory crew.facility)

  begins_given : (why : Option RunFault) (old : Crew C P) (event place : ℕ) (new : Crew C P) → BeginsOrNot directory why old event place new → is_lawful why ≡ true → GivenBy old → GivenBy new
  begins_given None old event place new b lawful given =
      phase_given K (crew_state directory old) (crew_state directory new) (slice_get old.script.phases old.progress.begun) b given
  begins_given (Some fault.Failed) old event place new b lawful given = absurd b
  begins_given (Some (fault.Damaged volume at)) old event place new b lawful given = absurd b
  begins_given (Some (fault.Unlawful refused)) old event place new b lawful given = cc
  begins_given (Some fault.NoMemory) old event place new b lawful given = absurd b

  goes_given : (why : Option RunFault) (old : Crew C P) (disk : D) (new : Crew C P) (left : D) (restart : Option Restart) → is_some restart ≡ true → IfSome restart (λ r. RestartSteps alive contents why (crew_state directory old) r disk (crew_state directory new) left) → GivenBy old → GivenBy new
  goes_given why old disk new left None has steps given = cc
  goes_given why old disk new left (Some r) has steps given =
      enters_given K (record (crew_state directory old) { restart = Some steps.now }) (crew_state directory new) why steps.reached steps.enters given

  own_given : (why : Option RunFault) (old : Crew C P) (disk : D) (event place : ℕ) (failed : Bool) (new : Crew C P) (left : D) → TakesOwn directory alive contents why old disk event place failed new left → event % 64 ≡ 0 → Own (is_some old.restart) (event / 64) → is_lawful why ≡ true → GivenBy old → GivenBy new
  own_given why old disk event place failed new left t own (Begins e) lawful given =
      begins_given why old event place new (t.begins (event_of event 0 own e)) lawful given
  own_given why old disk event place failed new left t own (Fails e) lawful given =
      subst (Given K) (sym (ap (λ (x : CrewState). x.facility) (t.fails (event_of event 1 own e)).1.rest)) given
  own_given why old disk event place failed new left t own (Goes restarts e) lawful given =
      goes_given why old disk new left old.restart restarts (t.goes (event_of event 2 own e)) given

  made_given_at : SendsLawfully → (old : Crew C P) (disk : D) (at choice place : ℕ) (failed : Bool) (new : Crew C P) (left : D) → ((a : Member) → member_at old.parts.items at ≡ Some a → Said K a.holds.marks place) → IsMade directory alive contents old disk at choice place failed new left → GivenBy old → GivenBy new
  made_given_at law old disk at choice place failed new left said made given =
      at_given law K old.script old.progress.begun old.sizes.sizes choice (world_of directory alive contents old.facility disk) old.fates place made.stepped (world_of directory alive contents new.facility left) new.fates (member_at old.parts.items at) (member_at new.parts.items at) said made.steps.comes given

  member_given : SendsLawfully → (why : Option RunFault) (old : Crew C P) (disk : D) (at choice place : ℕ) (failed : Bool) (new : Crew C P) (left : D) → ((a : Member) → member_at old.parts.items at ≡ Some a → Said K a.holds.marks place) → TakesMember directory alive contents why old disk at choice place failed new left → is_lawful why ≡ true → GivenBy old → GivenBy new
  member_given law None old disk at choice place failed new left said t lawful given = made_given_at law old disk at choice place failed new left said t given
  member_given law (Some (fault.Damaged volume offset)) old disk at choice place failed new left said t lawful given = made_given_at law old disk at choice place failed new left said t given
  member_given law (Some (fault.Unlawful refused)) old disk at choice place failed new left said t lawful given = cc
  member_given law (Some fault.Failed) old disk at choice place failed new left said t lawful given = absurd t
  member_given law (Some fault.NoMemory) old disk at choice place failed new left said t lawful given = absurd t

-- ---- any event

abbrev GroupGiven : {C D P : Type 0} → (C → Directory) → Knowledge → Group D C P → Type 0
GroupGiven {C} {D} {P} directory K group = is_lawful group.fault ≡ true → AreGiven K group.crew.facility.lists.cells

module _ {C D P : Type 0} (directory : C → Directory) (alive : D → Bool) (contents : D → Option Contents) (count : D → ℕ) (law : SendsLawfully) (K : Knowledge) (old : Group D C P) (event : ℕ) (new : Group D C P) (closed : (k : ℕ) (n : Name) (m : Mode) (it : CellAnswer) (named : ℕ) → AnswersAt old event new k n m it named → K k n m it named) (t : Takes directory alive contents count old event new) where
  said_at : (a : Member) → member_at old.crew.parts.items (event % 64 - 1) ≡ Some a → Said K a.holds.marks (length new.journal.items)
  said_at a was n m it says = closed a.holds.marks.member n m it (length new.journal.items) (record { member = a; was = was; its = refl; here = refl; says = says })

  taken : takes old event ≡ true → GroupGiven directory K old → GroupGiven directory K new
  taken is given lawful =
      let parts = and_parts _ _ is in
      let so_far : AreGiven K old.crew.facility.lists.cells = given (unended old.fault (is_ready_in old.crew event) is) in
      elim (cases_eq (event % 64) 0) [
        | inl own ↦ own_given directory alive contents K new.fault old.crew old.disk event (length new.journal.items) t.failed new.crew new.disk (t.own is own) own (own_event old.crew event own parts.1) lawful so_far
        | inr other ↦ member_given directory alive contents K law new.fault old.crew old.disk (event % 64 - 1) (event / 64) (length new.journal.items) t.failed new.crew new.disk said_at (t.member is other) lawful so_far
      ]

  missed : takes old event ≡ false → GroupGiven directory K old → GroupGiven directory K new
  missed is given lawful =
      let e = t.left is in
      let before : AreGiven K old.crew.facility.lists.cells = given (subst (λ (why : Option RunFault). is_lawful why ≡ true) (ap (λ (g : Group D C P). g.fault) e) lawful) in
      subst (λ (l : ListsState). AreGiven K l.cells) (sym (ap (λ (g : Group D C P). g.crew.facility.lists) e)) before

  takes_given : GroupGiven directory K old → GroupGiven directory K new
  takes_given given lawful = elim (cases_Bool (takes old event)) [
    | inl is ↦ taken is given lawful
    | inr is ↦ missed is given lawful
  ]

-- ---- a run

module _ {C D P : Type 0} (directory : C → Directory) (alive : D → Bool) (contents : D → Option Contents) (count : D → ℕ) (law : SendsLawfully) (K : Knowledge) where
  looked : (old new : Group D C P) → IsLooked old new → GroupGiven directory K old → GroupGiven directory K new
  looked old new l given lawful =
      let lists : new.crew.facility.lists ≡ old.crew.facility.lists = ap (λ (c : Crew C P). c.facility.lists) l.crew.rest in
      let why : new.fault ≡ old.fault = ap (λ (g : Group D C P). g.fault) l.rest in
      subst (λ (x : ListsState). AreGiven K x.cells) (sym lists) (given (subst (λ (f : Option RunFault). is_lawful f ≡ true) why lawful))

  runs : (events : List ℕ) (old new : Group D C P) → ((k : ℕ) (n : Name) (m : Mode) (it : CellAnswer) (named : ℕ) → Answered directory alive contents count old events new k n m it named → K k n m it named) → RunsFresh directory alive contents count old events new → GroupGiven directory K old → GroupGiven directory K new
  runs [] old new closed r given = looked old new r given
  runs (event ∷ events) old new closed r given =
      let first = r.1 in
      let at_once = λ (k : ℕ) (n : Name) (m : Mode) (it : CellAnswer) (named : ℕ) (h : AnswersAt first.mid event r.0 k n m it named).
      closed k n m it named (record {
        events = [];
        event = event;
        rest = events;
        before = first.mid;
        after = r.0;
        splits = refl;
        leads = first.looked;
        takes = first.takes;
        goes_on = r.2;
        answers = h;
      }) in
      let later = λ (k : ℕ) (n : Name) (m : Mode) (it : CellAnswer) (named : ℕ) (h : Answered directory alive contents count r.0 events new k n m it named).
      closed k n m it named (record {
        events = event ∷ h.events;
        event = h.event;
        rest = h.rest;
        before = h.before;
        after = h.after;
        splits = ap (λ (es : List ℕ). event ∷ es) h.splits;
        leads = (r.0, r.1, h.leads);
        takes = h.takes;
        goes_on = h.goes_on;
        answers = h.answers;
      }) in
      let here : GroupGiven directory K r.0 = takes_given directory alive contents count law K first.mid event r.0 at_once first.takes (looked old first.mid first.looked given) in
      runs events r.0 new later r.2 here

-- each answer in a cell was given at one of the events, by claims that said so
pub answers_given : {C D : Type 0} (P : Type 0) (directory : C → Directory) (alive : D → Bool) (contents : D → Option Contents) (count : D → ℕ) → SendsLawfully → AnswersGiven P directory alive contents count
answers_given {C} {D} P directory alive contents count law start journal last fresh led lawful =
    let K = Answered directory alive contents count start journal last in
    let none : AreGiven K start.crew.facility.lists.cells = made_given K start.crew.facility.lists.cells fresh.facility.lists_new.cells in
    runs directory alive contents count law K journal start last (λ k n m it named h. h) led (λ is. none) lawful
