-- Runs in which what is ready may be found again before each event.
use Rattle.std.specs.Prelude.{◌≡◌, ℕ, Bool, List, [], ◌∷◌, ◌++◌, Option}
use Rattle.ds_disk.specs.Contents.{Contents}
use Rattle.cache_structure.specs.Directory.{Directory}
use Rattle.group_crew.specs.Crews.{Looks}
use Rattle.group_core.specs.declared.group.Group.{Group}
use Rattle.group_core.specs.Goes.{Goes}
use Rattle.group_core.specs.Takes.{Takes}

-- what is ready may have been found again, and nothing else has changed
pub record IsLooked {C D P : Type 0} (old new : Group D C P) : Type 0 where
  pub rest : new ≡ record old { crew = new.crew }
  pub crew : Looks old.crew new.crew

-- it may have been, and then the group took the event
pub record TakesFresh {C D P : Type 0} (directory : C → Directory) (alive : D → Bool) (contents : D → Option Contents) (count : D → ℕ) (old : Group D C P) (event : ℕ) (new : Group D C P) : Type 0 where
  pub mid : Group D C P
  pub looked : IsLooked old mid
  pub takes : Takes directory alive contents count mid event new

-- the events, from the first one on, lead so from one group to the other
abbrev pub RunsFresh : {C D P : Type 0} → (C → Directory) → (D → Bool) → (D → Option Contents) → (D → ℕ) → Group D C P → List ℕ → Group D C P → Type 0
RunsFresh {C} {D} {P} directory alive contents count old [] new = IsLooked old new
RunsFresh {C} {D} {P} directory alive contents count old (event ∷ events) new = (mid : Group D C P) × TakesFresh directory alive contents count old event mid × RunsFresh directory alive contents count mid events new

-- some events lead so from one group to the other, whose journal has them, and the disk's count says it where a call has failed in one
pub record RunsFrom {C D P : Type 0} (directory : C → Directory) (alive : D → Bool) (contents : D → Option Contents) (count : D → ℕ) (old new : Group D C P) : Type 0 where
  pub events : List ℕ
  pub journal : new.journal.items ≡ old.journal.items ++ events
  pub runs : RunsFresh directory alive contents count old events new
  pub goes : Goes (count old.disk) old.faults.items old.fault (count new.disk) new.faults.items new.fault
