-- A run: the events that a group took, one after the other.
use Rattle.std.specs.Prelude.{◌≡◌, ℕ, ◌%◌, ◌≤◌, Bool, true, List, [], ◌∷◌, ◌++◌, length, Option, Some, slice_get}
use Rattle.ds_disk.specs.Contents.{Contents}
use Rattle.cache_structure.specs.Directory.{Directory}
use Rattle.draw_generator.specs.Draws.{drawn, next_state}
use Rattle.group_core.specs.declared.group.Group.{Group}
use Rattle.group_core.specs.declared.schedule.RunEnd.{RunEnd}
use Rattle.group_core.specs.declared.schedule.RunEnd.TheVariants as ends
use Rattle.group_core.specs.Events.{ready_events, takes}
use Rattle.group_core.specs.Takes.{Takes}

-- the events, from the first one on, lead from one group to the other
abbrev pub Runs : {C D P : Type 0} → (C → Directory) → (D → Bool) → (D → Option Contents) → (D → ℕ) → Group D C P → List ℕ → Group D C P → Type 0
Runs {C} {D} {P} directory alive contents count old [] new = new ≡ old
Runs {C} {D} {P} directory alive contents count old (event ∷ events) new = (mid : Group D C P) × Takes directory alive contents count old event mid × Runs directory alive contents count mid events new

-- ---- by the seeded schedule

-- the event is taken, and stands at the place that is drawn, among all that are ready
pub record IsDrawn {C D P : Type 0} (group : Group D C P) (seed event : ℕ) : Type 0 where
  pub taken : takes group event ≡ true
  pub stands : slice_get (ready_events group.crew) (drawn seed % length (ready_events group.crew)) ≡ Some event

-- the same events, each drawn, where the generator had this state at first
abbrev pub Draws : {C D P : Type 0} → (C → Directory) → (D → Bool) → (D → Option Contents) → (D → ℕ) → Group D C P → ℕ → List ℕ → Group D C P → ℕ → Type 0
Draws {C} {D} {P} directory alive contents count old seed [] new after = (new ≡ old) × (after ≡ seed)
Draws {C} {D} {P} directory alive contents count old seed (event ∷ events) new after =
    (mid : Group D C P) × IsDrawn old seed event × Takes directory alive contents count old event mid × Draws directory alive contents count mid (next_state seed) events new after

-- so many events at most were drawn and taken; or all of them, where the run has ended with none left to take
pub record RunsOn {C D P : Type 0} (directory : C → Directory) (alive : D → Bool) (contents : D → Option Contents) (count : D → ℕ) (old : Group D C P) (seed most : ℕ) (end : RunEnd) (new : Group D C P) (after : ℕ) : Type 0 where
  pub events : List ℕ
  pub within : length events ≤ most
  pub spent : end ≡ ends.Spent → length events ≡ most
  pub journal : new.journal.items ≡ old.journal.items ++ events
  pub runs : Runs directory alive contents count old events new
  pub draws : Draws directory alive contents count old seed events new after
