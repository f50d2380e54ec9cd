-- Whole runs, from what restarts know before each event.
use Rattle.std.proofs.Common.{◌≡◌, ℕ, Bool, List, [], ◌∷◌, Option, Some}
use Rattle.std.specs.Prelude.{◌≢◌}
use Rattle.ds_disk.specs.Contents.{Contents}
use Rattle.cache_structure.specs.Directory.{Directory}
use Rattle.group_core.specs.Given.{CrewState, crew_state}
use Rattle.group_core.specs.declared.group.Group.{Group}
use Rattle.group_core.specs.Fresh.{RunsFresh}
use Rattle.failed_logs.specs.Given.{AllEvents, FindsClaims, RunsStand}
use Rattle.claimed_logs.specs.Found.{AdoptionsFound}
use Rattle.claimed_logs.specs.Runs.{FindsOpens, KnowingRunsStand, StandsKnowing}

finds : AdoptionsFound → (old new : CrewState) → FindsOpens old new → FindsClaims old new
finds law old new opens w stands =
    let there : StandsKnowing old = opens w stands in
    record { world = there.world; stands = there.stands; adopted = law old new there.world there.stands.tied there.known }

module _ {C D P : Type 0} (directory : C → Directory) (alive : D → Bool) (contents : D → Option Contents) (count : D → ℕ) where
  all_find : AdoptionsFound → (events : List ℕ) (old new : Group D C P) (runs : RunsFresh directory alive contents count old events new)
      → AllEvents FindsOpens directory alive contents count old events new runs → AllEvents FindsClaims directory alive contents count old events new runs
  all_find law [] old new runs all = tt
  all_find law (event ∷ events) old new runs all = (finds law (crew_state directory old.crew) (crew_state directory runs.0.crew) all.0, all_find law events runs.0 new runs.2 all.1)

pub knowing_runs : {C D : Type 0} → (P : Type 0) (directory : C → Directory) (alive : D → Bool) (contents : D → Option Contents) (count : D → ℕ) → AdoptionsFound → RunsStand P directory alive contents count → KnowingRunsStand P directory alive contents count
knowing_runs {C} {D} P directory alive contents count law stand first events last fresh counted runs all lawful =
    stand first events last fresh counted runs (all_find directory alive contents count law events first last runs all) lawful
