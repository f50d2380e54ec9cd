-- What one event does to a group.
use Rattle.std.specs.Prelude.{◌≡◌, ◌≢◌, ℕ, ◌-◌, ◌/◌, ◌%◌, Bool, true, false, [], ◌∷◌, ◌++◌, length, map, Option, Some, None, IfSome, slice_get}
use Rattle.ds_base.specs.Causes.{Rose}
use Rattle.ds_disk.specs.Contents.{Contents}
use Rattle.cache_structure.specs.Directory.{Directory}
use Rattle.group_crew.specs.declared.crew.Crew.{Crew}
use Rattle.group_crew.specs.Beginning.{BeginsNext, CannotBegin}
use Rattle.group_crew.specs.Crews.{Keeps}
use Rattle.group_crew.specs.Failing.{GroupFails, fail_counted}
use Rattle.group_crew.specs.Happening.{ComesAt, IsRefusedAt, Stepped, has_failed, member_at}
use Rattle.group_crew.specs.States.{crew_state, known_by}
-- given out again: a member and its world, and a line of the trace
pub use Rattle.group_crew.specs.Happening.{MemberPart, world_of}
pub use Rattle.trace_words.specs.declared.line.Line.{Line}
use Rattle.group_core.specs.declared.fault.RunFault.{RunFault}
use Rattle.group_core.specs.declared.fault.RunFault.TheVariants as fault
use Rattle.group_core.specs.declared.group.Group.{Group}
use Rattle.group_core.specs.Events.{takes}
use Rattle.group_core.specs.Goes.{ends_failed, noted}
use Rattle.group_core.specs.Moves.{Moves}
use Rattle.group_core.specs.Restarts.{RestartSteps}

-- ---- an event of a member

-- The member at a place of the crew has made such a step of a choice, and what is ready was found again. No other member has changed, and what
-- members know of the ends of logs stays.
pub record StepsAt {C D P : Type 0} (directory : C → Directory) (alive : D → Bool) (contents : D → Option Contents) (old : Crew C P) (disk : D) (at choice place : ℕ) (stepped : Stepped) (new : Crew C P) (left : D) : Type 0 where
  pub comes : ComesAt old.script old.progress.begun old.sizes.sizes choice (member_at old.parts.items at) (world_of directory alive contents old.facility disk) old.fates place stepped (member_at new.parts.items at) (world_of directory alive contents new.facility left) new.fates
  pub others : (k : ℕ) → k ≢ at → member_at new.parts.items k ≡ member_at old.parts.items k
  pub keeps : Keeps old new
  pub known : map known_by new.parts.items ≡ map known_by old.parts.items
  pub groupfails : new.progress.groupfails ≡ old.progress.groupfails
  pub sizes : new.sizes ≡ old.sizes

-- it has made one, in which a call of the disk has failed or not
pub record IsMade {C D P : Type 0} (directory : C → Directory) (alive : D → Bool) (contents : D → Option Contents) (old : Crew C P) (disk : D) (at choice place : ℕ) (failed : Bool) (new : Crew C P) (left : D) : Type 0 where
  pub stepped : Stepped
  pub failure : failed ≡ has_failed stepped
  pub steps : StepsAt directory alive contents old disk at choice place stepped new left

-- the run ends at this place, since what was wanted may not be done
pub record IsRefusedIn {C D P : Type 0} (directory : C → Directory) (alive : D → Bool) (contents : D → Option Contents) (old : Crew C P) (disk : D) (at place : ℕ) (refused : ℕ) (failed : Bool) (new : Crew C P) (left : D) : Type 0 where
  pub there : refused ≡ place
  pub unfailed : failed ≡ false
  pub cause : IsRefusedAt (member_at old.parts.items at) (world_of directory alive contents old.facility disk) place (world_of directory alive contents new.facility left)

-- the faults that a step may leave: none, or that of a byte that can't stand there
abbrev pub is_read : Option RunFault → Bool
is_read None = true
is_read (Some fault.Failed) = false
is_read (Some (fault.Damaged volume at)) = true
is_read (Some (fault.Unlawful place)) = false
is_read (Some fault.NoMemory) = false

-- by the fault that is left: the step was made, or it was refused
abbrev pub TakesMember : {C D P : Type 0} → (C → Directory) → (D → Bool) → (D → Option Contents) → Option RunFault → Crew C P → D → ℕ → ℕ → ℕ → Bool → Crew C P → D → Type 0
TakesMember {C} {D} {P} directory alive contents None old disk at choice place failed new left = IsMade directory alive contents old disk at choice place failed new left
TakesMember {C} {D} {P} directory alive contents (Some (fault.Damaged volume offset)) old disk at choice place failed new left = IsMade directory alive contents old disk at choice place failed new left
TakesMember {C} {D} {P} directory alive contents (Some (fault.Unlawful refused)) old disk at choice place failed new left = IsRefusedIn directory alive contents old disk at place refused failed new left
TakesMember {C} {D} {P} directory alive contents (Some fault.Failed) old disk at choice place failed new left = ⊥
TakesMember {C} {D} {P} directory alive contents (Some fault.NoMemory) old disk at choice place failed new left = ⊥

-- ---- an event of the group itself

-- the run ends at this place, since the next phase can't begin
pub record IsUnbegun {C P : Type 0} (old : Crew C P) (event place : ℕ) (refused : ℕ) : Type 0 where
  pub there : refused ≡ place
  pub begins : event ≡ 0
  pub cause : CannotBegin (slice_get old.script.phases old.progress.begun) old.facility.lists.bells (length old.parts.items)

-- by the fault that is left: the next phase has begun, or it can't begin
abbrev pub BeginsOrNot : {C P : Type 0} → (C → Directory) → Option RunFault → Crew C P → ℕ → ℕ → Crew C P → Type 0
BeginsOrNot {C} {P} directory None old event place new = BeginsNext (crew_state directory old) (crew_state directory new)
BeginsOrNot {C} {P} directory (Some (fault.Unlawful refused)) old event place new = IsUnbegun old event place refused
BeginsOrNot {C} {P} directory (Some fault.Failed) old event place new = ⊥
BeginsOrNot {C} {P} directory (Some (fault.Damaged volume at)) old event place new = ⊥
BeginsOrNot {C} {P} directory (Some fault.NoMemory) old event place new = ⊥

-- Event 0 begins the next phase, event 64 lets the group fail, and that counts, and event 128 makes the next call of the disk in the group restart
-- that is in hand. A call of the disk fails in a group restart alone, and the run ends with it. What is refused is the begin of a phase.
pub record TakesOwn {C D P : Type 0} (directory : C → Directory) (alive : D → Bool) (contents : D → Option Contents) (why : Option RunFault) (old : Crew C P) (disk : D) (event place : ℕ) (failed : Bool) (new : Crew C P) (left : D) : Type 0 where
  pub failure : failed ≡ ends_failed why
  pub restarts : failed ≡ true → event ≡ 128
  pub refused : (at : ℕ) → why ≡ Some (fault.Unlawful at) → IsUnbegun old event place at
  pub begins : event ≡ 0 → BeginsOrNot directory why old event place new
  pub fails : event ≡ 64 → (why ≡ None) × GroupFails (fail_counted (crew_state directory old)) (crew_state directory new)
  pub goes : event ≡ 128 → IfSome old.restart (λ restart. RestartSteps alive contents why (crew_state directory old) restart disk (crew_state directory new) left)
  pub still : event ≢ 128 → left ≡ disk

-- ---- any event

-- Its number goes into the journal; and its place there among those at which a call of the disk has failed, where one has. One that
-- isn't taken changes nothing else but the lines of the trace. One that is taken may move the script on; it is the group's own
-- or, by the number in its last six bits, a member's.
pub record Takes {C D P : Type 0} (directory : C → Directory) (alive : D → Bool) (contents : D → Option Contents) (count : D → ℕ) (old : Group D C P) (event : ℕ) (new : Group D C P) : Type 0 where
  pub failed : Bool
  pub journal : new.journal.items ≡ old.journal.items ++ event ∷ []
  pub faults : new.faults.items ≡ noted old.faults.items (length new.journal.items) failed
  pub rose : failed ≡ true → Rose (count old.disk) (count new.disk)
  pub left : takes old event ≡ false → new ≡ record old { journal = new.journal; lines = new.lines; faults = new.faults }
  pub missed : takes old event ≡ false → failed ≡ false
  pub moves : takes old event ≡ true → Moves directory event old.crew new.crew new.fault
  pub own : takes old event ≡ true → event % 64 ≡ 0 → TakesOwn directory alive contents new.fault old.crew old.disk event (length new.journal.items) failed new.crew new.disk
  pub member : takes old event ≡ true → event % 64 ≢ 0 → TakesMember directory alive contents new.fault old.crew old.disk (event % 64 - 1) (event / 64) (length new.journal.items) failed new.crew new.disk
