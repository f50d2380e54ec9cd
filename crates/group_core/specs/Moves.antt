-- How an event that is taken moves the script on.
use Rattle.std.specs.Prelude.{◌≡◌, ◌≢◌, ◌⊎◌, ℕ, ◌+◌, true, false, Option, is_some}
use Rattle.cache_structure.specs.Directory.{Directory}
use Rattle.facility.specs.States.{held, IsReset}
use Rattle.group_crew.specs.declared.crew.Crew.{Crew}
use Rattle.group_core.specs.declared.fault.RunFault.{RunFault}

-- Event 0 begins the next phase, or shows why that may not be, and no other begins one; event 64 lets the group fail; a group
-- restart that is in hand is done by event 128 alone, and then the facility is as it was made.
pub record Moves {C P : Type 0} (directory : C → Directory) (event : ℕ) (old new : Crew C P) (why : Option RunFault) : Type 0 where
  pub script : new.script ≡ old.script
  pub begins : event ≡ 0 → (new.progress.begun ≡ old.progress.begun + 1) ⊎ (is_some why ≡ true)
  pub stays : event ≢ 0 → new.progress.begun ≡ old.progress.begun
  pub fails : event ≡ 64 → is_some new.restart ≡ true
  pub holds : event ≢ 128 → is_some old.restart ≡ true → is_some new.restart ≡ true
  pub ends : is_some old.restart ≡ true → is_some new.restart ≡ false → IsReset (held directory old.facility) new.facility.counter (held directory new.facility)
