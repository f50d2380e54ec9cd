-- The logs of a group behind any event of it.
use Rattle.std.specs.Prelude.{◌≡◌, ◌≢◌, ℕ, Bool, false, Option, Some, is_some}
use Rattle.ds_disk.specs.Contents.{Contents}
use Rattle.cache_structure.specs.Directory.{Directory}
use Rattle.lock_protocol.specs.Machine.{World}
use Rattle.group_core.specs.Given.{CrewState, crew_state}
use Rattle.group_core.specs.declared.fault.RunFault.TheVariants as fault
use Rattle.group_core.specs.declared.group.Group.{Group}
use Rattle.group_core.specs.Takes.{Takes}
use Rattle.failed_logs.specs.Given.{IsFor, Moves, Whose}
use Rattle.failed_logs.specs.Given.{LocksTied}
use Rattle.group_logs.specs.Known.{EndsHold}
use Rattle.claimed_logs.specs.Logs.{LogsClaimed}

-- The logs have their claims in this world, and are whole records up to where their members know them to be.
pub record LogsStand (c : Contents) (s : CrewState) (w : World) : Type 0 where
  pub claimed : LogsClaimed c s w
  pub ends : EndsHold c s

-- an event that isn't refused, while no group restart is in hand
abbrev pub EventsKeep : {C D : Type 0} → (P : Type 0) → (C → Directory) → (D → Bool) → (D → Option Contents) → (D → ℕ) → Type 0
EventsKeep {C} {D} P directory alive contents count = (old new : Group D C P) (event : ℕ) (w : World) (c d : Contents)
    → Takes directory alive contents count old event new → ((at : ℕ) → new.fault ≢ Some (fault.Unlawful at)) → is_some old.crew.restart ≡ false
    → contents old.disk ≡ Some c → contents new.disk ≡ Some d → LocksTied (crew_state directory old.crew) w → LogsStand c (crew_state directory old.crew) w
    → (by : Whose) × IsFor event by × (moves : Moves by (crew_state directory old.crew) (crew_state directory new.crew) w) × LogsStand d (crew_state directory new.crew) moves.world
