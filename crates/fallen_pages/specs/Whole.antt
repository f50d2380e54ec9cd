-- Whole runs of a group.
use Rattle.std.specs.Prelude.{◌≡◌, ◌≢◌, ℕ, Bool, List, [], ◌∷◌, Option, Some}
use Rattle.ds_disk.specs.Contents.{Contents}
use Rattle.cache_structure.specs.Directory.{Directory}
use Rattle.group_core.specs.declared.fault.RunFault.TheVariants as fault
use Rattle.group_core.specs.declared.group.Group.{Group}
use Rattle.group_core.specs.Fresh.{RunsFresh}
use Rattle.group_core.specs.Given.{crew_state}
use Rattle.group_core.specs.Starts.{IsFresh}
use Rattle.lock_protocol.specs.Machine.{World as LockWorld}
use Rattle.page_protocol.specs.Moves.{World, start}
use Rattle.page_recoveries.specs.Given.{LocksTied}
use Rattle.fallen_pages.specs.Steps.{PagesHold, PagesMove, drive_of}
use Rattle.fallen_pages.specs.Taken.{EventTells, EventsGo}

-- An event finds a group that stands beside a world of locks, and so beside its pages; and takes from elsewhere what it takes.
pub record IsTold {C D P : Type 0} (directory : C → Directory) (alive : D → Bool) (contents : D → Option Contents) (old new : Group D C P) (w : World) (holds : PagesHold (drive_of alive contents old.disk) (crew_state directory old.crew) w) : Type 0 where
  pub locks : LockWorld
  pub tied : LocksTied (crew_state directory old.crew) locks
  pub tells : EventTells directory alive contents old new locks w holds

-- So it is of each event of a run, in the world to which the moves of those before it have led by this law.
abbrev pub AllTold : {C D P : Type 0} → (directory : C → Directory) (alive : D → Bool) (contents : D → Option Contents) (count : D → ℕ) → EventsGo P directory alive contents count
    → (old : Group D C P) (events : List ℕ) (new : Group D C P) → RunsFresh directory alive contents count old events new → (w : World) → PagesHold (drive_of alive contents old.disk) (crew_state directory old.crew) w → Type 0
AllTold {C} {D} {P} directory alive contents count law old [] new runs w holds = Unit {0}
AllTold {C} {D} {P} directory alive contents count law old (event ∷ events) new runs w holds = (lawful : (at : ℕ) → runs.0.fault ≢ Some (fault.Unlawful at))
    → (t : IsTold directory alive contents old runs.0 w holds) × AllTold directory alive contents count law runs.0 events new runs.2 (law old runs.0 event t.locks w runs.1 lawful t.tied holds t.tells).world (law old runs.0 event t.locks w runs.1 lawful t.tied holds t.tells).stands

-- Wherever events lead, none of which was refused, moves lead to a world beside which the group stands.
abbrev pub RunsHold : {C D : Type 0} → (P : Type 0) → (C → Directory) → (D → Bool) → (D → Option Contents) → (D → ℕ) → Type 0
RunsHold {C} {D} P directory alive contents count = (law : EventsGo P directory alive contents count) (first : Group D C P) (events : List ℕ) (last : Group D C P) (w : World)
    → (holds : PagesHold (drive_of alive contents first.disk) (crew_state directory first.crew) w) → (runs : RunsFresh directory alive contents count first events last) → AllTold directory alive contents count law first events last runs w holds
    → ((at : ℕ) → last.fault ≢ Some (fault.Unlawful at)) → PagesMove (drive_of alive contents last.disk) (crew_state directory last.crew) w

-- So it stands as it starts, over a disk that tells what it holds.
abbrev pub RunsStart : {C D : Type 0} → (P : Type 0) → (C → Directory) → (D → Bool) → (D → Option Contents) → Type 0
RunsStart {C} {D} P directory alive contents = (first : Group D C P) (c : Contents) (l : LockWorld)
    → IsFresh directory first → contents first.disk ≡ Some c → LocksTied (crew_state directory first.crew) l → PagesMove (drive_of alive contents first.disk) (crew_state directory first.crew) start
