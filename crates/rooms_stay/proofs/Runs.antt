-- Whole runs, event by event.
use Rattle.std.proofs.Common.{◌≡◌, ℕ, ◌+◌, ◌≤◌, refl, sym, ◌∙◌, ap, subst, arith, Bool, false, List, [], ◌∷◌, length, Option, Some, None}
use Rattle.std.specs.Prelude.{◌&&◌, not, IfSome, is_some, map, slice_get}
use Rattle.ds_base.specs.declared.names.Sizes.{Sizes}
use Rattle.ds_disk.specs.Contents.{Contents}
use Rattle.cache_structure.specs.Directory.{Directory}
use Rattle.needs_law.specs.Executing.{HasRoom}
use Rattle.group_member.specs.declared.part.MemberPart.{MemberPart}
use Rattle.group_member.specs.Members.{Member, member_of}
use Rattle.group_core.specs.Given.{Crew, CrewState, crew_state, is_ready_in, unlooked}
use Rattle.group_core.specs.declared.fault.RunFault.{RunFault}
use Rattle.group_core.specs.declared.fault.RunFault.TheVariants as fault
use Rattle.group_core.specs.declared.group.Group.{Group}
use Rattle.group_core.specs.Events.{takes}
use Rattle.group_core.specs.Fresh.{IsLooked, RunsFresh}
use Rattle.group_core.specs.Takes.{Takes}
use Rattle.rooms_stay.specs.Rooms.{HasRooms}
use Rattle.rooms_stay.specs.Runs.{IsUnrefused, RoomsStand, RunsHaveRoom, RunsKeep}
use Rattle.rooms_stay.proofs.Groups.{events_keep_all, starts}

-- ---- what is ready
members_unlooked : {P : Type 0} → (parts : List (MemberPart P)) → map member_of (map unlooked parts) ≡ map member_of parts
members_unlooked [] = refl
members_unlooked (p ∷ parts) = ap (λ (ms : List Member). member_of p ∷ ms) (members_unlooked parts)

module _ {C D P : Type 0} (directory : C → Directory) (alive : D → Bool) (contents : D → Option Contents) (count : D → ℕ) where
  -- it may have been found again, and nothing else has changed
  looked : (old new : Group D C P) → IsLooked old new → RoomsStand (crew_state directory old.crew) → RoomsStand (crew_state directory new.crew)
  looked old new l h =
      let members : map member_of new.crew.parts.items ≡ map member_of old.crew.parts.items =
      sym (members_unlooked new.crew.parts.items) ∙ ap (λ (ps : List (MemberPart P)). map member_of ps) l.crew.parts ∙ members_unlooked old.crew.parts.items in
      let sizes : new.crew.sizes.sizes ≡ old.crew.sizes.sizes = ap (λ (z : Crew C P). z.sizes.sizes) l.crew.rest in
      record {
        frames = ap (λ (z : Crew C P). (directory z.facility.cache).frames) l.crew.rest ∙ h.frames ∙ ap (λ (z : Sizes). z.pool) (sym sizes);
        members = subst (λ (z : Sizes). (at : ℕ) → IfSome (slice_get (map member_of new.crew.parts.items) at) (λ (m : Member). HasRooms z m.holds.marks)) (sym sizes)
            (subst (λ (z : List Member). (at : ℕ) → IfSome (slice_get z at) (λ (m : Member). HasRooms old.crew.sizes.sizes m.holds.marks)) (sym members) h.members);
      }

  -- ---- a fault is left from then on
  still_faulty : (old new : Group D C P) (event : ℕ) (why : RunFault) → Takes directory alive contents count old event new → old.fault ≡ Some why → new.fault ≡ Some why
  still_faulty old new event why taken is =
      let isnt : takes old event ≡ false = ap (λ (z : Option RunFault). not (is_some z) && is_ready_in old.crew event) is in
      ap (λ (z : Group D C P). z.fault) (taken.left isnt) ∙ is

  faulty_on : (events : List ℕ) (old new : Group D C P) (why : RunFault) → RunsFresh directory alive contents count old events new → old.fault ≡ Some why → new.fault ≡ Some why
  faulty_on [] old new why runs is = ap (λ (z : Group D C P). z.fault) runs.rest ∙ is
  faulty_on (event ∷ events) old new why runs is =
      let first = runs.1 in
      faulty_on events runs.0 new why runs.2 (still_faulty first.mid runs.0 event why first.takes (ap (λ (z : Group D C P). z.fault) first.looked.rest ∙ is))

  goes : (events : List ℕ) (old new : Group D C P) → RunsFresh directory alive contents count old events new → IsUnrefused new → RoomsStand (crew_state directory old.crew)
      → RoomsStand (crew_state directory new.crew) × (new.crew.sizes.sizes ≡ old.crew.sizes.sizes)
  goes [] old new runs unrefused h = (looked old new runs h, ap (λ (z : Crew C P). z.sizes.sizes) runs.crew.rest)
  goes (event ∷ events) old new runs unrefused h =
      let first = runs.1 in
      let one = events_keep_all P directory alive contents count first.mid runs.0 event first.takes (λ at e. unrefused at (faulty_on events runs.0 new (fault.Unlawful at) runs.2 e)) (looked old first.mid first.looked h) in
      let rest = goes events runs.0 new runs.2 unrefused one.0 in
      (rest.0, rest.1 ∙ one.1 ∙ ap (λ (z : Crew C P). z.sizes.sizes) first.looked.crew.rest)

pub runs_keep : {C D : Type 0} → (P : Type 0) (directory : C → Directory) (alive : D → Bool) (contents : D → Option Contents) (count : D → ℕ) → RunsKeep P directory alive contents count
runs_keep {C} {D} P directory alive contents count first events last fresh runs unrefused = goes directory alive contents count events first last runs unrefused (starts directory first fresh)

-- ---- with at most 16 agents
few_slots : (n agents : ℕ) → n ≡ agents + 1 → agents ≤ 16 → n ≤ 17
few_slots n agents e few = omega (arith, e, few)

room_of : (s : CrewState) → RoomsStand s → s.sizes.agents ≤ 16 → (x : Option Member) → IfSome x (λ (m : Member). HasRooms s.sizes m.holds.marks) → IfSome x (λ (m : Member). HasRoom s.facility m.holds.marks)
room_of s stand few None h = tt
room_of s stand few (Some m) h = record { frames = h.frames ∙ sym stand.frames; slots = few_slots (length m.holds.marks.trans.slots) s.sizes.agents h.slots few }

pub runs_have_room : {C D : Type 0} → (P : Type 0) (directory : C → Directory) (alive : D → Bool) (contents : D → Option Contents) (count : D → ℕ) → RunsHaveRoom P directory alive contents count
runs_have_room {C} {D} P directory alive contents count first events last fresh few runs unrefused at =
    let kept = runs_keep P directory alive contents count first events last fresh runs unrefused in
    room_of (crew_state directory last.crew) kept.0 (subst (λ (z : Sizes). z.agents ≤ 16) (sym kept.1) few) (slice_get (crew_state directory last.crew).members at) (kept.0.members at)
