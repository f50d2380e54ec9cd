-- Whole runs of a group, beside the moves of the world of locks.
use Rattle.std.specs.Prelude.{◌≡◌, ◌≢◌, ℕ, ◌≤◌, Bool, false, List, [], ◌∷◌, length, Option, Some, is_some, slice_get}
use Rattle.ds_disk.specs.Contents.{Contents}
use Rattle.cache_structure.specs.Directory.{Directory}
use Rattle.member_intents.specs.declared.outcome.Answered.{Answered}
use Rattle.member_resources.specs.Events.{Drive}
use Rattle.restart_marks.specs.Adopt.{adopted_told}
use Rattle.restart_marks.specs.declared.intent.RestartSent.{RestartSent}
use Rattle.group_member.specs.declared.stepped.Stepped.TheVariants as steps
use Rattle.group_member.specs.Happening.{Steps}
use Rattle.group_member.specs.Members.{Member}
use Rattle.group_core.specs.Given.{CrewState, crew_state}
use Rattle.group_core.specs.declared.fault.RunFault.TheVariants as fault
use Rattle.group_core.specs.declared.group.Group.{Group}
use Rattle.group_core.specs.Fresh.{RunsFresh}
use Rattle.group_core.specs.Starts.{IsFresh}
use Rattle.lock_protocol.specs.Machine.{World, start}
use Rattle.lock_protocol.specs.Moves.{Move, Run}
use Rattle.lock_world.specs.Views.{entry_in}
use Rattle.group_locks.specs.Agreeing.{ClaimsAgree}
use Rattle.group_locks.specs.Stands.{LocksTied}
use Rattle.group_locks.specs.Taken.{AdoptedClaim}

-- ---- a group at one moment

-- moves lead from the start of the world of locks to this one, beside which the group stands
pub record StandsBeside (s : CrewState) (w : World) : Type 0 where
  pub moves : List Move
  pub run : Run (entry_in s.facility.locks) start moves w
  pub tied : LocksTied s w

-- there is such a world, and so the claims that members know of agree
pub record IsSafe (s : CrewState) : Type 0 where
  pub world : World
  pub stands : StandsBeside s world
  pub agree : ClaimsAgree s

-- The lists of the facility count its members, of which there are at most 32, with at most 16 agents each. No contract says so of a group that
-- starts.
pub record AreCounted (s : CrewState) : Type 0 where
  pub count : length s.members ≡ s.facility.lists.members
  pub few : s.facility.lists.members ≤ 32
  pub agents : s.sizes.agents ≤ 16

-- ---- one event of it

-- the group stands beside a world in which the transactions that a restart hands over in this event have their claims
pub record Finds (old new : CrewState) : Type 0 where
  pub world : World
  pub stands : StandsBeside old world
  pub adopted : AdoptedClaim old new world

-- It does, where it stands beside any. No contract says so yet.
abbrev pub FindsClaims : CrewState → CrewState → Type 0
FindsClaims old new = (w : World) → StandsBeside old w → Finds old new

-- no restart hands over to its member what it leaves open in this event
abbrev pub HandsNoneOver : CrewState → CrewState → Type 0
HandsNoneOver old new = (at : ℕ) (m n : Member) (drive left : Drive) (place : ℕ) (sent : RestartSent) (answered : Answered)
    → slice_get old.members at ≡ Some m
    → (made : Steps m (record { facility = old.facility; drive = drive }) old.fates place (steps.Restart sent answered) n (record { facility = new.facility; drive = left }) new.fates)
    → made.makes.reached.resources.marks.is_up ≡ false → is_some (adopted_told made.makes.reached.resources.marks) ≡ false

-- ---- all events of a run

abbrev pub AllEvents : {C D P : Type 0} → (CrewState → CrewState → Type 0) → (directory : C → Directory) (alive : D → Bool) (contents : D → Option Contents) (count : D → ℕ)
    → (old : Group D C P) (events : List ℕ) (new : Group D C P) → RunsFresh directory alive contents count old events new → Type 0
AllEvents {C} {D} {P} Holds directory alive contents count old [] new runs = Unit {0}
AllEvents {C} {D} {P} Holds directory alive contents count old (event ∷ events) new runs =
    Holds (crew_state directory old.crew) (crew_state directory runs.0.crew) × AllEvents Holds directory alive contents count runs.0 events new runs.2

-- The group is safe. So it is behind the next event, and goes on so, if this holds of that event and it isn't refused.
abbrev pub StaysSafe : {C D P : Type 0} → (CrewState → CrewState → Type 0) → (directory : C → Directory) (alive : D → Bool) (contents : D → Option Contents) (count : D → ℕ)
    → (old : Group D C P) (events : List ℕ) (new : Group D C P) → RunsFresh directory alive contents count old events new → Type 0
StaysSafe {C} {D} {P} Holds directory alive contents count old [] new runs = IsSafe (crew_state directory new.crew)
StaysSafe {C} {D} {P} Holds directory alive contents count old (event ∷ events) new runs =
    IsSafe (crew_state directory old.crew)
    × (((at : ℕ) → runs.0.fault ≢ Some (fault.Unlawful at)) → Holds (crew_state directory old.crew) (crew_state directory runs.0.crew) → StaysSafe Holds directory alive contents count runs.0 events new runs.2)

-- ---- the theorems

-- wherever events lead a group that has just started, none of which was refused, if they find the claims of the transactions that restarts hand over
abbrev pub RunsStand : {C D : Type 0} → (P : Type 0) → (C → Directory) → (D → Bool) → (D → Option Contents) → (D → ℕ) → Type 0
RunsStand {C} {D} P directory alive contents count = (first : Group D C P) (events : List ℕ) (last : Group D C P) → IsFresh directory first → AreCounted (crew_state directory first.crew)
    → (runs : RunsFresh directory alive contents count first events last) → AllEvents FindsClaims directory alive contents count first events last runs → ((at : ℕ) → last.fault ≢ Some (fault.Unlawful at))
    → IsSafe (crew_state directory last.crew)

-- and so if no restart hands any over, but takes back itself what it finds open
abbrev pub PlainRunsStand : {C D : Type 0} → (P : Type 0) → (C → Directory) → (D → Bool) → (D → Option Contents) → (D → ℕ) → Type 0
PlainRunsStand {C} {D} P directory alive contents count = (first : Group D C P) (events : List ℕ) (last : Group D C P) → IsFresh directory first → AreCounted (crew_state directory first.crew)
    → (runs : RunsFresh directory alive contents count first events last) → AllEvents HandsNoneOver directory alive contents count first events last runs → ((at : ℕ) → last.fault ≢ Some (fault.Unlawful at))
    → IsSafe (crew_state directory last.crew)

-- it is so behind each of its events, as long as none is refused and no restart hands any over
abbrev pub PlainRunsStay : {C D : Type 0} → (P : Type 0) → (C → Directory) → (D → Bool) → (D → Option Contents) → (D → ℕ) → Type 0
PlainRunsStay {C} {D} P directory alive contents count = (first : Group D C P) (events : List ℕ) (last : Group D C P) → IsFresh directory first → AreCounted (crew_state directory first.crew)
    → (runs : RunsFresh directory alive contents count first events last) → StaysSafe HandsNoneOver directory alive contents count first events last runs
