-- What any event of a group leaves of the frames and slots of its members.
use Rattle.std.proofs.Common.{◌≡◌, ℕ, zero, suc, ◌+◌, refl, sym, ◌∙◌, ap, subst, arith, Bool, true, false, inl, inr, List, [], ◌∷◌, length, Option, Some, None}
use Rattle.std.specs.Prelude.{◌⊎◌, ◌-◌, ◌*◌, ◌/◌, ◌%◌, ◌==◌, not, if◌then◌else◌, IfSome, IsSomeAnd, is_some, map, slice_get, slice_index_or}
use Rattle.std.proofs.lemmas.Bool.{and_parts, cases_Bool, cases_eq, eqb-true}
use Rattle.std.proofs.lemmas.Nat.{div-add-mod'}
use Rattle.std.proofs.lemmas.Option.{slice_get-map, slice_get_within}
use Rattle.ds_base.specs.declared.names.Sizes.{Sizes}
use Rattle.ds_disk.specs.Contents.{Contents}
use Rattle.ds_model.specs.declared.script.Phase.{Phase}
use Rattle.ds_model.specs.declared.script.Script.{Script}
use Rattle.cache_structure.specs.Directory.{Directory}
use Rattle.list_structure.specs.States.{ListsState}
use Rattle.facility.specs.States.{Held as Facility}
use Rattle.member_resources.specs.Events.{world_of}
use Rattle.script_phases.specs.declared.progress.Progress.{Progress}
use Rattle.script_phases.specs.Progresses.{has_groupfail, has_phase, own_choice}
use Rattle.group_restart.specs.Machine.{Restart}
use Rattle.group_restart.specs.declared.calls.State.{State}
use Rattle.group_restart.specs.declared.calls.State.TheVariants as state
use Rattle.group_member.specs.declared.part.MemberPart.{MemberPart}
use Rattle.group_member.specs.Members.{IsDown, Member, member_of}
use Rattle.group_core.specs.Given.{AllRestart, BeginsAnew, ComesAt, CrewState, GroupFails, PhaseBegins, Restarts, begins_restart, crew_state, fail_counted, is_own, is_ready_in, lists_begun, member_at, ready_for}
use Rattle.group_core.specs.declared.fault.RunFault.{RunFault}
use Rattle.group_core.specs.declared.fault.RunFault.TheVariants as fault
use Rattle.group_core.specs.declared.group.Group.{Group}
use Rattle.group_core.specs.Events.{takes}
use Rattle.group_core.specs.Restarts.{EntersRestart, RestartSteps}
use Rattle.group_core.specs.Starts.{IsFresh}
use Rattle.group_core.specs.Takes.{BeginsOrNot, IsMade, Takes, TakesMember, TakesOwn}
use Rattle.rooms_stay.specs.Rooms.{HasRooms}
use Rattle.rooms_stay.specs.Runs.{EventsKeepAll, IsUnrefused, RoomsStand}
use Rattle.rooms_stay.proofs.Events.{rooms_begin}
use Rattle.rooms_stay.proofs.Members.{Fits, comes_fit}

never : true ≡ false → ⊥
never e = cc

abbrev Has : Sizes → Member → Type 0
Has sizes m = HasRooms sizes m.holds.marks

-- the sizes stay, too
record Kept (old new : CrewState) : Type 0 where
  pub stands : RoomsStand new
  pub sizes : new.sizes ≡ old.sizes

as_before : (old new : CrewState) → new ≡ old → RoomsStand old → Kept old new
as_before old new e h = record { stands = subst (λ (z : CrewState). RoomsStand z) (sym e) h; sizes = ap (λ (z : CrewState). z.sizes) e }

-- ---- a phase begins
one_begins : (sizes : Sizes) (b : Bool) (old new : Member) → Restarts b old new → Has sizes old → Has sizes new
one_begins sizes true old new e h = subst (λ (z : Member). Has sizes z) (sym e.1) h
one_begins sizes false old new e h = subst (λ (z : Member). Has sizes z) (sym e) h

all_begin : (sizes : Sizes) (phase : Phase) (lists now : ListsState) (olds news : List Member) → AllRestart phase lists olds news now → ((at : ℕ) → IfSome (slice_get olds at) (Has sizes)) → (at : ℕ) → IfSome (slice_get news at) (Has sizes)
all_begin sizes phase lists now [] [] e h at = h at
all_begin sizes phase lists now [] (new ∷ news) e h at = absurd e
all_begin sizes phase lists now (old ∷ olds) [] e h at = absurd e
all_begin sizes phase lists now (old ∷ olds) (new ∷ news) e h zero = one_begins sizes (begins_restart phase lists.statuses old.id) old new e.0 (h 0)
all_begin sizes phase lists now (old ∷ olds) (new ∷ news) e h (suc at) = all_begin sizes phase (lists_begun phase lists old.id) now olds news e.1 (λ k. h (suc k)) at

begins : (phase : Phase) (old new : CrewState) → PhaseBegins phase old new → RoomsStand old → Kept old new
begins phase old new e h =
    let sizes : new.sizes ≡ old.sizes = ap (λ (z : CrewState). z.sizes) e.rest in
    record {
      stands = record {
        frames = ap (λ (z : Facility). z.directory.frames) e.facility.others ∙ h.frames ∙ ap (λ (z : Sizes). z.pool) (sym sizes);
        members = subst (λ (z : Sizes). (at : ℕ) → IfSome (slice_get new.members at) (Has z)) (sym sizes) (all_begin old.sizes phase old.facility.lists e.lists old.members new.members e.restarts h.members);
      };
      sizes = sizes;
    }

-- ---- the group fails, and begins anew
fails : (old new : CrewState) → GroupFails (fail_counted old) new → RoomsStand old → Kept old new
fails old new e h = record {
  stands = subst (λ (z : CrewState). RoomsStand z) (sym e.rest) (record { frames = h.frames; members = h.members });
  sizes = ap (λ (z : CrewState). z.sizes) e.rest;
}

there : (ms : List Member) (at : ℕ) (d m : Member) → slice_get ms at ≡ Some m → slice_index_or ms at d ≡ m
there [] at d m e = cc
there (x ∷ xs) zero d m e = cc
there (x ∷ xs) (suc at) d m e = there xs at d m e

anew : (counter : ℕ) (old new : CrewState) → BeginsAnew counter old new → RoomsStand old → Kept old new
anew counter old new e h =
    let sizes : new.sizes ≡ old.sizes = ap (λ (z : CrewState). z.sizes) e.rest in
    record {
      stands = record {
        frames = ap (λ (z : Directory). z.frames) e.facility.directory_empty ∙ h.frames ∙ ap (λ (z : Sizes). z.pool) (sym sizes);
        members = λ at. by at (slice_get new.members at) refl sizes;
      };
      sizes = sizes;
    }
  where
    down : (at : ℕ) (m : Member) → slice_get new.members at ≡ Some m → IsDown old.sizes m
    down at m s = subst (λ (z : Member). IsDown old.sizes z) (there new.members at m m s) (e.members at m (slice_get_within new.members at m s))

    by : (at : ℕ) (x : Option Member) → slice_get new.members at ≡ x → new.sizes ≡ old.sizes → IfSome x (Has new.sizes)
    by at None s sizes = tt
    by at (Some m) s sizes = subst (λ (z : Sizes). Has z m) (sym sizes) (rooms_begin m.id old.sizes m.holds (down at m s).holds)

enters : (s : State) (why : Option RunFault) (old new : CrewState) → EntersRestart s why old new → RoomsStand old → Kept old new
enters state.Going why old new e h = as_before old new e.1 h
enters (state.Done counter) why old new e h = anew counter old new e.1 h
enters (state.Damaged volume at) why old new e h = as_before old new e.1 h
enters state.Failed why old new e h = record {
  stands = subst (λ (z : CrewState). RoomsStand z) (sym e.2) (record { frames = h.frames; members = h.members });
  sizes = ap (λ (z : CrewState). z.sizes) e.2;
}

-- ---- which events are the group's own
own_is : (choice : ℕ) (o : Option ℕ) (k : ℕ) → o ≡ Some k → is_own o choice ≡ true → choice ≡ k
own_is choice o k e is = let same : (k == choice) ≡ true = ap (λ (z : Option ℕ). is_own z choice) (sym e) ∙ is in sym (eqb-true k choice same)

own_choices : (r : Bool) (p : Progress) (script : Script) (choice : ℕ) → is_own (own_choice r p script) choice ≡ true → (choice ≡ 0) ⊎ ((choice ≡ 1) ⊎ ((choice ≡ 2) × (r ≡ true)))
own_choices true p script choice e = inr (inr (own_is choice (Some 2) 2 refl e, refl))
own_choices false p script choice e = by p.is_idle (has_groupfail p script) (has_phase p script) e
  where
    by : (a b c : Bool) → is_own (if a then (if b then Some 1 else (if c then Some 0 else None)) else None) choice ≡ true → (choice ≡ 0) ⊎ ((choice ≡ 1) ⊎ ((choice ≡ 2) × (false ≡ true)))
    by true true c e = inr (inl (own_is choice (Some 1) 1 refl e))
    by true false true e = inl (own_is choice (Some 0) 0 refl e)
    by true false false e = absurd (never (sym e))
    by false b c e = absurd (never (sym e))

own_number : (event choice : ℕ) → event % 64 ≡ 0 → event / 64 ≡ choice → event ≡ choice * 64
own_number event choice rest is =
    let whole : event / 64 * 64 + event % 64 ≡ event = div-add-mod' event 64 in
    let same : event / 64 * 64 ≡ choice * 64 = ap (λ z. z * 64) is in
    omega (arith, whole, same, rest)

-- ---- any event
module _ {C D P : Type 0} (directory : C → Directory) (alive : D → Bool) (contents : D → Option Contents) (count : D → ℕ) where
  module _ (old new : Group D C P) (event : ℕ) (taken : Takes directory alive contents count old event new) (unrefused : IsUnrefused new) (stood : RoomsStand (crew_state directory old.crew)) where
    abbrev before : CrewState
    before = crew_state directory old.crew

    abbrev now : CrewState
    now = crew_state directory new.crew

    ready : takes old event ≡ true → event % 64 ≡ 0 → is_own (own_choice (is_some old.crew.restart) old.crew.progress old.crew.script) (event / 64) ≡ true
    ready is own = subst (λ z. ready_for (is_some old.crew.restart) (own_choice (is_some old.crew.restart) old.crew.progress old.crew.script) (map (λ (p : MemberPart P). p.ready) old.crew.parts.items) z (event / 64) ≡ true) own
        (and_parts (not (is_some old.fault)) (is_ready_in old.crew event) is).1

    next_phase : (x : Option Phase) → IsSomeAnd x (λ phase. PhaseBegins phase before now) → Kept before now
    next_phase None h = absurd h
    next_phase (Some phase) h = begins phase before now h stood

    phase_or_not : (why : Option RunFault) → new.fault ≡ why → BeginsOrNot directory why old.crew event (length new.journal.items) new.crew → Kept before now
    phase_or_not None left e = next_phase (slice_get before.script.phases before.begun) e
    phase_or_not (Some (fault.Unlawful place)) left e = absurd (unrefused place left)
    phase_or_not (Some fault.Failed) left e = absurd e
    phase_or_not (Some (fault.Damaged volume offset)) left e = absurd e
    phase_or_not (Some fault.NoMemory) left e = absurd e

    restarts : (x : Option Restart) → is_some x ≡ true → IfSome x (λ restart. RestartSteps alive contents new.fault before restart old.disk now new.disk) → Kept before now
    restarts None is h = absurd (never (sym is))
    restarts (Some restart) is h =
        let k = enters h.reached new.fault (record before { restart = Some h.now }) now h.enters (record { frames = stood.frames; members = stood.members }) in
        record { stands = k.stands; sizes = k.sizes }

    own_event : TakesOwn directory alive contents new.fault old.crew old.disk event (length new.journal.items) taken.failed new.crew new.disk → (event / 64 ≡ 0) ⊎ ((event / 64 ≡ 1) ⊎ ((event / 64 ≡ 2) × (is_some old.crew.restart ≡ true))) → event % 64 ≡ 0
        → Kept before now
    own_event e (inl first) own = phase_or_not new.fault refl (e.begins (own_number event 0 own first))
    own_event e (inr (inl second)) own = fails before now (e.fails (own_number event 1 own second)).1 stood
    own_event e (inr (inr third)) own = restarts old.crew.restart third.1 (e.goes (own_number event 2 own third.0))

    abbrev at : ℕ
    at = event % 64 - 1

    old_at : (k : ℕ) → slice_get before.members k ≡ member_at old.crew.parts.items k
    old_at k = slice_get-map member_of old.crew.parts.items k

    new_at : (k : ℕ) → slice_get now.members k ≡ member_at new.crew.parts.items k
    new_at k = slice_get-map member_of new.crew.parts.items k

    member_event : IsMade directory alive contents old.crew old.disk at (event / 64) (length new.journal.items) taken.failed new.crew new.disk → Kept before now
    member_event e = by (member_at old.crew.parts.items at) (member_at new.crew.parts.items at) (old_at at) (new_at at) e.steps.comes
      where
        sizes : now.sizes ≡ before.sizes
        sizes = ap (λ z. z.sizes) e.steps.sizes

        by : (x y : Option Member) → slice_get before.members at ≡ x → slice_get now.members at ≡ y
            → ComesAt old.crew.script old.crew.progress.begun old.crew.sizes.sizes (event / 64) x (world_of directory alive contents old.crew.facility old.disk) before.fates (length new.journal.items) e.stepped y (world_of directory alive contents new.crew.facility new.disk) now.fates
            → Kept before now
        by None y had has c = absurd c
        by (Some m) None had has c = absurd c
        by (Some m) (Some n) had has c = record {
          stands = record {
            frames = fits.known ∙ ap (λ (z : Sizes). z.pool) (sym sizes);
            members = subst (λ (z : Sizes). (k : ℕ) → IfSome (slice_get now.members k) (Has z)) (sym sizes) each;
          };
          sizes = sizes;
        }
          where
            fits : Fits before.sizes n now.facility
            fits = comes_fit old.crew.script old.crew.progress.begun before.sizes (event / 64) m n (world_of directory alive contents old.crew.facility old.disk) (world_of directory alive contents new.crew.facility new.disk) before.fates now.fates (length new.journal.items) e.stepped c
                (record { rooms = subst (λ (z : Option Member). IfSome z (Has before.sizes)) had (stood.members at); known = stood.frames })

            each : (k : ℕ) → IfSome (slice_get now.members k) (Has before.sizes)
            each k = elim (cases_eq k at) [
              | inl same ↦ subst (λ (z : Option Member). IfSome z (Has before.sizes)) (sym (ap (λ i. slice_get now.members i) same ∙ has)) fits.rooms
              | inr ne ↦ subst (λ (z : Option Member). IfSome z (Has before.sizes)) (sym (new_at k ∙ e.steps.others k ne ∙ sym (old_at k))) (stood.members k)
            ]

    member_takes : (why : Option RunFault) → new.fault ≡ why → TakesMember directory alive contents why old.crew old.disk at (event / 64) (length new.journal.items) taken.failed new.crew new.disk → Kept before now
    member_takes None left e = member_event e
    member_takes (Some (fault.Damaged volume offset)) left e = member_event e
    member_takes (Some (fault.Unlawful refused)) left e = absurd (unrefused refused left)
    member_takes (Some fault.Failed) left e = absurd e
    member_takes (Some fault.NoMemory) left e = absurd e

    event_keeps : Kept before now
    event_keeps = elim (cases_Bool (takes old event)) [
      | inr isnt ↦ as_before before now (ap (λ (z : Group D C P). crew_state directory z.crew) (taken.left isnt)) stood
      | inl is ↦ elim (cases_eq (event % 64) 0) [
        | inl own ↦ own_event (taken.own is own) (own_choices (is_some old.crew.restart) old.crew.progress old.crew.script (event / 64) (ready is own)) own
        | inr member ↦ member_takes new.fault refl (taken.member is member)
      ]
    ]

pub events_keep_all : {C D : Type 0} → (P : Type 0) (directory : C → Directory) (alive : D → Bool) (contents : D → Option Contents) (count : D → ℕ) → EventsKeepAll P directory alive contents count
events_keep_all {C} {D} P directory alive contents count old new event taken unrefused stood =
    let k = event_keeps directory alive contents count old new event taken unrefused stood in
    (k.stands, k.sizes)

-- ---- a group that has just started
pub starts : {C D P : Type 0} → (directory : C → Directory) (first : Group D C P) → IsFresh directory first → RoomsStand (crew_state directory first.crew)
starts {C} {D} {P} directory first fresh = record {
  frames = ap (λ (z : Directory). z.frames) fresh.facility.directory_empty;
  members = λ at. subst (λ (z : Option Member). IfSome z (Has first.crew.sizes.sizes)) (sym (slice_get-map member_of first.crew.parts.items at)) (has (member_at first.crew.parts.items at) (fresh.members at));
}
  where
    has : (x : Option Member) → IfSome x (IsDown first.crew.sizes.sizes) → IfSome x (Has first.crew.sizes.sizes)
    has None down = tt
    has (Some m) down = rooms_begin m.id first.crew.sizes.sizes m.holds down.holds
