-- The work of a round.
use Rattle.std.specs.Prelude.{◌≡◌, ℕ, suc, ◌<◌, List, [], ◌∷◌}
use Rattle.std.specs.Arc.{arc_value}
use Rattle.turn_story.specs.declared.stepping.Stepping.{Ghosts}
use Rattle.group_threads.specs.declared.errand.Errand.{Errand}
use Rattle.group_threads.specs.declared.errand.Stage.{Stage}
use Rattle.group_threads.specs.Desks.{IsMemberAt}

module _ {M P G : Type 0} {told : Ghosts M P} where
  -- the worker's desk is that of the member with its number, at the turn of its stage
  abbrev pub IsReady : Errand M G P told → Type 0
  IsReady e = (e.number < 64) × IsMemberAt (arc_value e.stage).turn e.number e.worker.desk.seat e.worker.desk.part

  -- the worker stays at its desk
  abbrev pub Leaves : Errand M G P told → Errand M G P told → Type 0
  Leaves e f = (f.number ≡ e.number) × (f.stage ≡ e.stage) × IsMemberAt (arc_value e.stage).turn e.number f.worker.desk.seat f.worker.desk.part

  -- these are the works of the members from the k-th on, at this stage
  abbrev pub StandAt : Stage M P told → ℕ → List (Errand M G P told) → Type 0
  StandAt z k [] = Unit {0}
  StandAt z k (e ∷ es) = (e.number ≡ k) × (arc_value e.stage ≡ z) × StandAt z (suc k) es

  -- and each worker is at its member's desk
  abbrev pub ErrandsAt : Stage M P told → ℕ → List (Errand M G P told) → Type 0
  ErrandsAt z k [] = Unit {0}
  ErrandsAt z k (e ∷ es) = (e.number ≡ k) × (arc_value e.stage ≡ z) × IsMemberAt z.turn k e.worker.desk.seat e.worker.desk.part × ErrandsAt z (suc k) es
