-- Whole runs of a group whose restarts know that what they have left open has its claims.
use Rattle.std.specs.Prelude.{◌≡◌, ◌≢◌, ℕ, Bool, List, Option, Some}
use Rattle.ds_disk.specs.Contents.{Contents}
use Rattle.cache_structure.specs.Directory.{Directory}
use Rattle.lock_protocol.specs.Machine.{World}
use Rattle.group_core.specs.Given.{CrewState, crew_state}
use Rattle.group_core.specs.declared.fault.RunFault.TheVariants as fault
use Rattle.group_core.specs.declared.group.Group.{Group}
use Rattle.group_core.specs.Fresh.{RunsFresh}
use Rattle.group_core.specs.Starts.{IsFresh}
use Rattle.failed_logs.specs.Given.{AllEvents, AreCounted, IsSafe, StandsBeside}
use Rattle.claimed_logs.specs.Found.{AllOpensKnown}

-- the group stands beside a world in which each restart in hand knows so once it has read its log
pub record StandsKnowing (s : CrewState) : Type 0 where
  pub world : World
  pub stands : StandsBeside s world
  pub known : AllOpensKnown s world

-- It does before an event, where it stands beside any. The logs say so as long as they have their claims.
abbrev pub FindsOpens : CrewState → CrewState → Type 0
FindsOpens old new = (w : World) → StandsBeside old w → StandsKnowing old

-- wherever events lead a group that has just started, none of which was refused, if it stands so before each
abbrev pub KnowingRunsStand : {C D : Type 0} → (P : Type 0) → (C → Directory) → (D → Bool) → (D → Option Contents) → (D → ℕ) → Type 0
KnowingRunsStand {C} {D} P directory alive contents count = (first : Group D C P) (events : List ℕ) (last : Group D C P) → IsFresh directory first → AreCounted (crew_state directory first.crew)
    → (runs : RunsFresh directory alive contents count first events last) → AllEvents FindsOpens directory alive contents count first events last runs → ((at : ℕ) → last.fault ≢ Some (fault.Unlawful at))
    → IsSafe (crew_state directory last.crew)
