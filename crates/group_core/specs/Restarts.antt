-- What the next call of the disk in a group restart leaves.
use Rattle.std.specs.Prelude.{◌≡◌, Bool, true, false, List, Option, Some, None, Ok}
use Rattle.ds_disk.specs.Contents.{Contents}
use Rattle.script_fates.specs.Fated.{Stops}
use Rattle.group_restart.specs.Machine.{Restart}
use Rattle.group_restart.specs.Steps.{Steps}
use Rattle.group_restart.specs.declared.calls.State.{State}
use Rattle.group_restart.specs.declared.calls.State.TheVariants as state
use Rattle.group_crew.specs.Ends.{AllKnowEnds}
use Rattle.group_crew.specs.Failing.{BeginsAnew, drive_of}
use Rattle.group_crew.specs.Happening.{MemberPart}
use Rattle.group_crew.specs.States.{CrewState}
use Rattle.group_core.specs.declared.fault.RunFault.{RunFault}
use Rattle.group_core.specs.declared.fault.RunFault.TheVariants as fault

-- whether a call of the disk has failed in the group restart
abbrev pub is_stopped : State → Bool
is_stopped state.Going = false
is_stopped (state.Done counter) = false
is_stopped (state.Damaged volume at) = false
is_stopped state.Failed = true

-- By where the restart stands: it goes on; all begins anew; or the run ends, and of what had no fate some is stopped where the call has failed.
abbrev pub EntersRestart : State → Option RunFault → CrewState → CrewState → Type 0
EntersRestart state.Going why old new = (why ≡ None) × (new ≡ old)
EntersRestart (state.Done counter) why old new = (why ≡ None) × BeginsAnew counter old new
EntersRestart (state.Damaged volume at) why old new = (why ≡ Some (fault.Damaged volume at)) × (new ≡ old)
EntersRestart state.Failed why old new = (why ≡ Some fault.Failed) × Stops old.fates new.fates × (new ≡ record old { fates = new.fates })

-- The restart has made its call, as a step of it does, and stands there.
pub record RestartSteps {D : Type 0} (alive : D → Bool) (contents : D → Option Contents) (why : Option RunFault) (old : CrewState) (restart : Restart) (disk : D) (new : CrewState) (left : D) : Type 0 where
  pub reached : State
  pub now : Restart
  pub steps : Steps (drive_of alive contents disk) restart (Ok reached) (drive_of alive contents left) now
  pub enters : EntersRestart reached why (record old { restart = Some now }) new

-- Each member knows where the logs end behind a restart that is done; and what it knew while it goes on, or where the run ends.
abbrev pub KnowBehind : {P : Type 0} → State → Option Restart → List (MemberPart P) → List (MemberPart P) → Type 0
KnowBehind {P} state.Going restart old new = new ≡ old
KnowBehind {P} (state.Done counter) restart old new = AllKnowEnds restart new
KnowBehind {P} (state.Damaged volume at) restart old new = new ≡ old
KnowBehind {P} state.Failed restart old new = new ≡ old

-- the restart has made its call, and so they know behind it
pub record StepIsKnown {D P : Type 0} (alive : D → Bool) (contents : D → Option Contents) (restart : Restart) (disk left : D) (old new : List (MemberPart P)) : Type 0 where
  pub reached : State
  pub now : Restart
  pub steps : Steps (drive_of alive contents disk) restart (Ok reached) (drive_of alive contents left) now
  pub known : KnowBehind reached (Some now) old new
