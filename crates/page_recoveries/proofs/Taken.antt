-- Any event of a group, by whose it is, while no group restart is in hand.
use Rattle.std.proofs.Common.{◌≡◌, ℕ, zero, suc, ◌+◌, ◌≤◌, refl, sym, ◌∙◌, ap, subst, arith, Bool, true, false, inl, inr, List, [], ◌∷◌, length, Option, Some, None}
use Rattle.std.specs.Prelude.{◌≢◌, ◌⊎◌, ◌-◌, ◌*◌, ◌/◌, ◌%◌, ◌==◌, ◌||◌, not, if◌then◌else◌, IsSomeAnd, is_some, map, slice_get}
use Rattle.std.proofs.lemmas.Bool.{and_parts, cases_Bool, cases_eq, eqb-true}
use Rattle.std.proofs.lemmas.Nat.{div-add-mod'}
use Rattle.std.proofs.lemmas.Option.{none-some, slice_get-map}
use Rattle.ds_disk.specs.Contents.{Contents}
use Rattle.ds_model.specs.declared.script.Phase.{Phase}
use Rattle.ds_model.specs.declared.script.Script.{Script}
use Rattle.cache_structure.specs.Directory.{Directory}
use Rattle.list_structure.specs.declared.standing.MemberStatus.{MemberStatus}
use Rattle.list_structure.specs.declared.standing.MemberStatus.TheVariants as status
use Rattle.list_structure.specs.Standings.{is_live, status_of}
use Rattle.group_pages.specs.Given.{Comes, Drive, LocksTied, Member, MemberPart, Stepped, Steps, has_failed, is_fail, is_failure, is_over, is_restart, member_of, world_of}
use Rattle.script_phases.specs.declared.progress.Progress.{Progress}
use Rattle.script_phases.specs.Progresses.{has_groupfail, has_phase, own_choice}
use Rattle.group_restart.specs.Course.{IsBegun}
use Rattle.group_restart.specs.Machine.{Restart}
use Rattle.group_pages.specs.Given.stepped_variants as steps
use Rattle.group_core.specs.Given.{ComesAt, CrewState, GroupFails, PhaseBegins, crew_state, fail_counted, is_own, is_ready_in, member_at, ready_for}
use Rattle.group_core.specs.declared.fault.RunFault.{RunFault}
use Rattle.group_core.specs.declared.fault.RunFault.TheVariants as fault
use Rattle.group_core.specs.declared.group.Group.{Group}
use Rattle.group_core.specs.Events.{takes}
use Rattle.group_core.specs.Takes.{BeginsOrNot, IsMade, TakesMember, TakesOwn}
use Rattle.lock_protocol.specs.Machine.{World as LockWorld}
use Rattle.page_protocol.specs.Moves.{World}
use Rattle.group_pages.specs.Events.{PageMoves}
use Rattle.group_pages.specs.Members.{MemberStepsGo}
use Rattle.group_pages.specs.Stands.{PagesTied}
use Rattle.page_recoveries.specs.Failing.{BreakLeads, MemberFailsGo}
use Rattle.page_recoveries.specs.Groups.{GroupFailsGo, GroupMoves, PagesBy, PagesStand}
use Rattle.page_recoveries.specs.Phases.{PhasesGo}
use Rattle.page_recoveries.specs.Restarts.{RestartStepsGo}
use Rattle.page_recoveries.specs.Resting.{RestingStepsGo}
use Rattle.page_recoveries.specs.Taken.{EventsGo, Supplied, drive_of, outside}

pub record Facts : Type 0 where
  pub fails : GroupFailsGo
  pub phases : PhasesGo
  pub member_fails : MemberFailsGo
  pub steps : MemberStepsGo
  pub restarts : RestartStepsGo
  pub rests : RestingStepsGo

never : true ≡ false → ⊥
never e = cc

-- ---- the group runs on
none_begun : (s : CrewState) → s.restart ≡ None → (r : Restart) → s.restart ≡ Some r → IsBegun r
none_begun s none r e = absurd (none-some r (sym none ∙ e))

runs_on : (e : Drive) (new : CrewState) (w : World) → new.restart ≡ None → PageMoves e new w → GroupMoves e new w
runs_on e new w none a = record { moves = a.moves; world = a.world; run = a.run; stands = subst (λ (z : Option Restart). PagesBy z e new a.world) (sym none) a.tied; begun = none_begun new none }

stands_by : (d : Drive) (s : CrewState) (w : World) → s.restart ≡ None → PagesTied d s w → PagesStand d s w
stands_by d s w none t = subst (λ (z : Option Restart). PagesBy z d s w) (sym none) t

-- what is counted isn't pages'
counted : (d : Drive) (s : CrewState) (w : World) → PagesTied d s w → PagesTied d (fail_counted s) w
counted d s w t = record { holdings = t.holdings; versions = t.versions; forced = t.forced; pages = t.pages }

-- ---- which events are the group's own
own_is : (choice : ℕ) (o : Option ℕ) (k : ℕ) → o ≡ Some k → is_own o choice ≡ true → choice ≡ k
own_is choice o k e is = let same : (k == choice) ≡ true = ap (λ (z : Option ℕ). is_own z choice) (sym e) ∙ is in sym (eqb-true k choice same)

own_choices : (r : Bool) (p : Progress) (script : Script) (choice : ℕ) → is_own (own_choice r p script) choice ≡ true → (choice ≡ 0) ⊎ ((choice ≡ 1) ⊎ ((choice ≡ 2) × (r ≡ true)))
own_choices true p script choice e = inr (inr (own_is choice (Some 2) 2 refl e, refl))
own_choices false p script choice e = by p.is_idle (has_groupfail p script) (has_phase p script) e
  where
    by : (a b c : Bool) → is_own (if a then (if b then Some 1 else (if c then Some 0 else None)) else None) choice ≡ true → (choice ≡ 0) ⊎ ((choice ≡ 1) ⊎ ((choice ≡ 2) × (false ≡ true)))
    by true true c e = inr (inl (own_is choice (Some 1) 1 refl e))
    by true false true e = inl (own_is choice (Some 0) 0 refl e)
    by true false false e = absurd (never (sym e))
    by false b c e = absurd (never (sym e))

-- the number of such an event
own_number : (event choice : ℕ) → event % 64 ≡ 0 → event / 64 ≡ choice → event ≡ choice * 64
own_number event choice rest is =
    let whole : event / 64 * 64 + event % 64 ≡ event = div-add-mod' event 64 in
    let same : event / 64 * 64 ≡ choice * 64 = ap (λ z. z * 64) is in
    omega (arith, whole, same, rest)

-- ---- members by their places
some_at : {A : Type 0} → (xs ys : List A) → ((k : ℕ) → is_some (slice_get xs k) ≡ is_some (slice_get ys k)) → length xs ≡ length ys
some_at [] [] each = refl
some_at [] (y ∷ ys) each = absurd (never (sym (each 0)))
some_at (x ∷ xs) [] each = absurd (never (each 0))
some_at (x ∷ xs) (y ∷ ys) each = ap suc (some_at xs ys (λ k. each (suc k)))

live_cases : (s : MemberStatus) → is_live s ≡ true → (s ≡ status.Up) ⊎ (s ≡ status.Restarting)
live_cases status.Down e = absurd (never (sym e))
live_cases status.Up e = inl refl
live_cases status.Failed e = absurd (never (sym e))
live_cases status.Restarting e = inr refl

unfailed : (b : Bool) → (b || false) ≡ false → b ≡ false
unfailed true e = e
unfailed false e = refl

-- ---- a call of the disk has failed, or none was made
unbroken : (d e : Drive) (s : CrewState) (w : World) (t : PagesTied d s w) (m : ℕ) → e ≡ d → BreakLeads w e t.holdings t.versions t.forced m
unbroken d e s w t m same = subst (λ z. BreakLeads w z t.holdings t.versions t.forced m) (sym same) (record {
  moves = [];
  world = w;
  run = refl;
  left = t.holdings;
  stands = t.pages.group;
  facility = refl;
  drive = t.pages.drive;
  others = record {
    members = refl;
    statuses = λ k least ne. refl;
    counter = omega arith;
    log = λ k ne. refl;
    stable = λ k ne. refl;
    written = λ k ne. refl;
    copies = λ k n ne. refl;
    casts = λ k n ne. refl;
    keeps = λ k n ne x. x;
    takes = λ k n ne x. x;
  };
  owner = refl;
})

failed_or : (b c : Bool) → (b || c) ≡ true → (b ≡ true) ⊎ (c ≡ true)
failed_or true c e = inl refl
failed_or false c e = inr e

-- ---- the event of a member
record At (old new : CrewState) (at : ℕ) (m n : Member) : Type 0 where
  had : slice_get old.members at ≡ Some m
  has : slice_get new.members at ≡ Some n
  count : length new.members ≡ length old.members
  others : (k : ℕ) → k ≢ at → slice_get new.members k ≡ slice_get old.members k
  sizes : new.sizes ≡ old.sizes

module _ (facts : Facts) (d e : Drive) (old new : CrewState) (l : LockWorld) (w : World) (locks : LocksTied old l) (t : PagesTied d old w) (given : Supplied d e old new l w t) (at : ℕ) (m n : Member) (here : At old new at m n) (place : ℕ) where
  up : (stepped : Stepped) → is_over stepped ≡ false → status_of old.facility.lists.statuses m.id ≡ status.Up → Steps m (outside old d) old.fates place stepped n (outside new e) new.fates → PageMoves e new w
  up stepped over standing made = facts.steps old new at m n l w locks (record {
    had = here.had;
    has = here.has;
    count = here.count;
    others = here.others;
    sizes = here.sizes;
    up = standing;
    drive = d;
    left = e;
    place = place;
    stepped = stepped;
    steps = made;
  }) over t (given.up at m n place stepped here.had standing made over)

  rests : (stepped : Stepped) → is_restart stepped ≡ false → is_over stepped ≡ false → status_of old.facility.lists.statuses m.id ≡ status.Restarting → Steps m (outside old d) old.fates place stepped n (outside new e) new.fates → PageMoves e new w
  rests stepped other over standing made = facts.rests old new at m n l w locks (record {
    had = here.had;
    has = here.has;
    count = here.count;
    others = here.others;
    sizes = here.sizes;
    restarting = standing;
    drive = d;
    left = e;
    place = place;
    stepped = stepped;
    other = other;
    made = made;
  }) over t (given.resting at m n place stepped here.had standing made over)

  restarts : (stepped : Stepped) → is_over stepped ≡ false → status_of old.facility.lists.statuses m.id ≡ status.Restarting → Steps m (outside old d) old.fates place stepped n (outside new e) new.fates → PageMoves e new w
  restarts (steps.Sent s a) over standing made = rests (steps.Sent s a) refl over standing made
  restarts (steps.Rebuild s a) over standing made = rests (steps.Rebuild s a) refl over standing made
  restarts steps.Failed over standing made = absurd (never over)
  restarts (steps.Restart s a) over standing made = facts.restarts old new at m n l w locks (record {
    had = here.had;
    has = here.has;
    count = here.count;
    others = here.others;
    sizes = here.sizes;
    restarting = standing;
    drive = d;
    left = e;
    place = place;
    sent = s;
    answered = a;
    unfailed = unfailed (is_failure a) over;
    made = made;
    opened = given.adopted at m n d e place s a here.had made;
  }) t (given.restarting at m n place s a here.had made over)

  fails : (stepped : Stepped) (script : Script) (begun choice : ℕ) → is_over stepped ≡ true → Comes script begun old.sizes choice m (outside old d) old.fates place stepped n (outside new e) new.fates → PageMoves e new w
  fails stepped script begun choice over c = facts.member_fails d e old new at m n l w locks (record {
    had = here.had;
    has = here.has;
    count = here.count;
    others = here.others;
    same = c.same;
    down = c.down over;
    failed = c.fails over;
    sizes = here.sizes;
  }) t (by (failed_or (has_failed stepped) (is_fail stepped) over))
    where
      by : (has_failed stepped ≡ true) ⊎ (is_fail stepped ≡ true) → BreakLeads w e t.holdings t.versions t.forced m.id
      by (inl broke) = given.broken at m place stepped here.had broke (c.breaks broke)
      by (inr silent) = unbroken d e old w t m.id (c.silent silent)

  comes : (script : Script) (begun choice : ℕ) (stepped : Stepped) → Comes script begun old.sizes choice m (outside old d) old.fates place stepped n (outside new e) new.fates → PageMoves e new w
  comes script begun choice stepped c = elim (cases_Bool (is_over stepped)) [
    | inl over ↦ fails stepped script begun choice over c
    | inr on ↦ goes (live_cases (status_of old.facility.lists.statuses m.id) c.live) on (c.steps on)
  ]
    where
      goes : (status_of old.facility.lists.statuses m.id ≡ status.Up) ⊎ (status_of old.facility.lists.statuses m.id ≡ status.Restarting) → is_over stepped ≡ false → Steps m (outside old d) old.fates place stepped n (outside new e) new.fates → PageMoves e new w
      goes (inl standing) over made = up stepped over standing made
      goes (inr standing) over made = restarts stepped over standing made

above_zero : (n : ℕ) → n ≢ 0 → 1 ≤ n
above_zero zero ne = absurd (ne refl)
above_zero (suc n) ne = omega arith

is_none : {A : Type 0} → (x : Option A) → is_some x ≡ false → x ≡ None
is_none None e = refl
is_none (Some x) e = absurd (never e)

-- ---- any event
pub events_go : {C D : Type 0} → (P : Type 0) (directory : C → Directory) (alive : D → Bool) (contents : D → Option Contents) (count : D → ℕ) → Facts → EventsGo P directory alive contents count
events_go {C} {D} P directory alive contents count facts old new event l w taken lawful running locks t given = elim (cases_Bool (takes old event)) [
  | inr isnt ↦ unmoved (taken.left isnt)
  | inl is ↦ elim (cases_eq (event % 64) 0) [
    | inl own ↦ own_goes (taken.own is own) (own_choices (is_some old.crew.restart) old.crew.progress old.crew.script (event / 64) (ready is own)) own
    | inr member ↦ member_takes member new.fault refl (taken.member is member)
  ]
]
  where
    before : CrewState
    before = crew_state directory old.crew

    after : CrewState
    after = crew_state directory new.crew

    d : Drive
    d = drive_of alive contents old.disk

    e : Drive
    e = drive_of alive contents new.disk

    none_before : before.restart ≡ None
    none_before = is_none old.crew.restart running

    stays : GroupMoves d before w
    stays = record { moves = []; world = w; run = refl; stands = stands_by d before w none_before t; begun = none_begun before none_before }

    unmoved : new ≡ record old { journal = new.journal; lines = new.lines; faults = new.faults } → GroupMoves e after w
    unmoved is = subst (λ (z : Group D C P). GroupMoves (drive_of alive contents z.disk) (crew_state directory z.crew) w) (sym is) stays

    ready : takes old event ≡ true → event % 64 ≡ 0 → is_own (own_choice (is_some old.crew.restart) old.crew.progress old.crew.script) (event / 64) ≡ true
    ready is own = subst (λ z. ready_for (is_some old.crew.restart) (own_choice (is_some old.crew.restart) old.crew.progress old.crew.script) (map (λ (p : MemberPart P). p.ready) old.crew.parts.items) z (event / 64) ≡ true) own
        (and_parts (not (is_some old.fault)) (is_ready_in old.crew event) is).1

    next_phase : (x : Option Phase) → IsSomeAnd x (λ phase. PhaseBegins phase before after) → PageMoves d after w
    next_phase None h = absurd h
    next_phase (Some phase) h = facts.phases d phase before after l w locks h t

    phase_none : (x : Option Phase) → IsSomeAnd x (λ phase. PhaseBegins phase before after) → after.restart ≡ None
    phase_none None h = absurd h
    phase_none (Some phase) h = ap (λ (z : CrewState). z.restart) h.rest ∙ none_before

    begins : (why : Option RunFault) → new.fault ≡ why → BeginsOrNot directory why old.crew event (length new.journal.items) new.crew → GroupMoves d after w
    begins None left x = runs_on d after w (phase_none (slice_get before.script.phases before.begun) x) (next_phase (slice_get before.script.phases before.begun) x)
    begins (Some (fault.Unlawful place)) left x = absurd (lawful place left)
    begins (Some fault.Failed) left x = absurd x
    begins (Some (fault.Damaged volume offset)) left x = absurd x
    begins (Some fault.NoMemory) left x = absurd x

    still : (choice : ℕ) → event ≡ choice * 64 → choice ≤ 1 → new.disk ≡ old.disk → GroupMoves d after w → GroupMoves e after w
    still choice is few same a = subst (λ (z : D). GroupMoves (drive_of alive contents z) after w) (sym same) a

    apart : (choice : ℕ) → event ≡ choice * 64 → choice ≤ 1 → event ≢ 128
    apart choice is few same = omega (arith, is, few, same)

    own_goes : TakesOwn directory alive contents new.fault old.crew old.disk event (length new.journal.items) taken.failed new.crew new.disk → (event / 64 ≡ 0) ⊎ ((event / 64 ≡ 1) ⊎ ((event / 64 ≡ 2) × (is_some old.crew.restart ≡ true))) → event % 64 ≡ 0 → GroupMoves e after w
    own_goes x (inl first) own =
        let number : event ≡ 0 = own_number event 0 own first in
        still 0 number (omega arith) (x.still (apart 0 number (omega arith))) (begins new.fault refl (x.begins number))
    own_goes x (inr (inl second)) own =
        let number : event ≡ 64 = own_number event 1 own second in
        let fails : GroupFails (fail_counted before) after = (x.fails number).1 in
        still 1 number (omega arith) (x.still (apart 1 number (omega arith))) (facts.fails d (fail_counted before) after w fails (stands_by d (fail_counted before) w none_before (counted d before w t)))
    own_goes x (inr (inr third)) own = absurd (never (sym third.1 ∙ running))

    at : ℕ
    at = event % 64 - 1

    old_at : (k : ℕ) → slice_get before.members k ≡ member_at old.crew.parts.items k
    old_at k = slice_get-map member_of old.crew.parts.items k

    new_at : (k : ℕ) → slice_get after.members k ≡ member_at new.crew.parts.items k
    new_at k = slice_get-map member_of new.crew.parts.items k

    member_goes : event % 64 ≢ 0 → IsMade directory alive contents old.crew old.disk at (event / 64) (length new.journal.items) taken.failed new.crew new.disk → GroupMoves e after w
    member_goes member x = by (member_at old.crew.parts.items at) (member_at new.crew.parts.items at) (old_at at) (new_at at) x.steps.comes
      where
        others : (k : ℕ) → k ≢ at → slice_get after.members k ≡ slice_get before.members k
        others k ne = new_at k ∙ x.steps.others k ne ∙ sym (old_at k)

        by : (p q : Option Member) → slice_get before.members at ≡ p → slice_get after.members at ≡ q
            → ComesAt old.crew.script old.crew.progress.begun old.crew.sizes.sizes (event / 64) p (world_of directory alive contents old.crew.facility old.disk) before.fates (length new.journal.items) x.stepped q (world_of directory alive contents new.crew.facility new.disk) after.fates → GroupMoves e after w
        by None q had has c = absurd c
        by (Some m) None had has c = absurd c
        by (Some m) (Some n) had has c = runs_on e after w (x.steps.keeps.restart ∙ none_before)
            (comes facts d e before after l w locks t given at m n (record { had = had; has = has; count = some_at after.members before.members each; others = others; sizes = ap (λ z. z.sizes) x.steps.sizes }) (length new.journal.items) old.crew.script old.crew.progress.begun (event / 64) x.stepped c)
          where
            each : (k : ℕ) → is_some (slice_get after.members k) ≡ is_some (slice_get before.members k)
            each k = elim (cases_eq k at) [
              | inl same ↦ subst (λ z. is_some (slice_get after.members z) ≡ is_some (slice_get before.members z)) (sym same) (ap (λ (z : Option Member). is_some z) has ∙ sym (ap (λ (z : Option Member). is_some z) had))
              | inr ne ↦ ap (λ (z : Option Member). is_some z) (others k ne)
            ]

    member_takes : event % 64 ≢ 0 → (why : Option RunFault) → new.fault ≡ why → TakesMember directory alive contents why old.crew old.disk at (event / 64) (length new.journal.items) taken.failed new.crew new.disk → GroupMoves e after w
    member_takes member None left x = member_goes member x
    member_takes member (Some (fault.Damaged volume offset)) left x = member_goes member x
    member_takes member (Some (fault.Unlawful refused)) left x = absurd (lawful refused left)
    member_takes member (Some fault.Failed) left x = absurd x
    member_takes member (Some fault.NoMemory) left x = absurd x
