-- The frames and slots of all members of a group, in a run.
use Rattle.std.specs.Prelude.{◌≡◌, ◌≢◌, ℕ, ◌≤◌, Bool, List, Option, Some, IfSome, slice_get}
use Rattle.ds_disk.specs.Contents.{Contents}
use Rattle.cache_structure.specs.Directory.{Directory}
use Rattle.needs_law.specs.Executing.{HasRoom}
use Rattle.group_member.specs.Members.{Member}
use Rattle.group_core.specs.Given.{CrewState, crew_state}
use Rattle.group_core.specs.declared.fault.RunFault.TheVariants as fault
use Rattle.group_core.specs.declared.group.Group.{Group}
use Rattle.group_core.specs.Fresh.{RunsFresh}
use Rattle.group_core.specs.Starts.{IsFresh}
use Rattle.group_core.specs.Takes.{Takes}
use Rattle.rooms_stay.specs.Rooms.{HasRooms}

-- the cache structure knows of as many frames of each member as the group's sizes say, and each member has as many frames and slots as they say
pub record RoomsStand (s : CrewState) : Type 0 where
  pub frames : s.facility.directory.frames ≡ s.sizes.pool
  pub members : (at : ℕ) → IfSome (slice_get s.members at) (λ (m : Member). HasRooms s.sizes m.holds.marks)

-- none of its events was refused
abbrev pub IsUnrefused : {C D P : Type 0} → Group D C P → Type 0
IsUnrefused {C} {D} {P} group = (at : ℕ) → group.fault ≢ Some (fault.Unlawful at)

-- so it is behind an event where it was before, unless that is refused
abbrev pub EventsKeepAll : {C D : Type 0} → (P : Type 0) → (C → Directory) → (D → Bool) → (D → Option Contents) → (D → ℕ) → Type 0
EventsKeepAll {C} {D} P directory alive contents count = (old new : Group D C P) (event : ℕ) → Takes directory alive contents count old event new → IsUnrefused new
    → RoomsStand (crew_state directory old.crew) → RoomsStand (crew_state directory new.crew) × (new.crew.sizes.sizes ≡ old.crew.sizes.sizes)

-- wherever events lead a group that has just started, none of which was refused
abbrev pub RunsKeep : {C D : Type 0} → (P : Type 0) → (C → Directory) → (D → Bool) → (D → Option Contents) → (D → ℕ) → Type 0
RunsKeep {C} {D} P directory alive contents count = (first : Group D C P) (events : List ℕ) (last : Group D C P) → IsFresh directory first → RunsFresh directory alive contents count first events last → IsUnrefused last
    → RoomsStand (crew_state directory last.crew) × (last.crew.sizes.sizes ≡ first.crew.sizes.sizes)

-- so each member has room, where there are at most 16 agents
abbrev pub RunsHaveRoom : {C D : Type 0} → (P : Type 0) → (C → Directory) → (D → Bool) → (D → Option Contents) → (D → ℕ) → Type 0
RunsHaveRoom {C} {D} P directory alive contents count = (first : Group D C P) (events : List ℕ) (last : Group D C P) → IsFresh directory first → first.crew.sizes.sizes.agents ≤ 16
    → RunsFresh directory alive contents count first events last → IsUnrefused last
    → (at : ℕ) → IfSome (slice_get (crew_state directory last.crew).members at) (λ (m : Member). HasRoom (crew_state directory last.crew).facility m.holds.marks)
