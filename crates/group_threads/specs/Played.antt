-- What a run by threads comes to.
use Rattle.std.specs.Prelude.{◌≡◌, ◌≢◌, ◌≤◌, ℕ, Bool, Option, Some, Result, Ok, IfOk, OnOk, OnErr}
use Rattle.ds_disk.specs.Contents.{Contents}
use Rattle.cache_structure.specs.Directory.{Directory}
use Rattle.group_core.specs.declared.fault.RunFault.TheVariants as fault
use Rattle.group_core.specs.declared.group.Group.{Group}
use Rattle.group_core.specs.declared.schedule.RunEnd.{RunEnd}
use Rattle.group_core.specs.declared.schedule.RunEnd.TheVariants as ends
use Rattle.group_core.specs.Ends.{Ends}
use Rattle.group_core.specs.Fresh.{RunsFrom}

-- the group before leads to the one behind, and how that has ended
pub record IsPlayed {C D P E : Type 0} (directory : C → Directory) (alive : D → Bool) (contents : D → Option Contents) (count : D → ℕ) (old new : Group D C P) (end : Result RunEnd E) : Type 0 where
  pub stands : IfOk end (λ e. Ends e new)
  pub unspent : end ≢ Ok ends.Spent
  pub runs : OnOk end (RunsFrom directory alive contents count old new)
  pub later : count old.disk ≤ count new.disk
  pub wanting : OnErr end (new.fault ≡ Some fault.NoMemory)
