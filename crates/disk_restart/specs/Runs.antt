-- The run of a group restart over a disk, from its first step to its last.
use Rattle.std.specs.Prelude.{◌≡◌, ◌⊎◌, ℕ, zero, suc, Result, Ok}
use Rattle.ds_base.specs.declared.fault.NoMemory.{NoMemory}
use Rattle.group_restart.specs.declared.calls.State.{State}
use Rattle.group_restart.specs.declared.calls.State.TheVariants as state
use Rattle.group_restart.specs.Disk.{Drive}
use Rattle.group_restart.specs.Machine.{Restart}
use Rattle.group_restart.specs.Course.{IsBegun}
use Rattle.group_restart.specs.Steps.{WantsMemory, Steps}

-- so many steps, each of which goes on
abbrev pub AllGo : ℕ → Drive → Restart → Drive → Restart → Type 0
AllGo zero w h v k = (v ≡ w) × (k ≡ h)
AllGo (suc n) w h v k = (mid : Drive) × ((between : Restart) × (Steps w h (Ok state.Going) mid between × AllGo n mid between v k))

-- some number of them
pub record HasGone (w : Drive) (h : Restart) (v : Drive) (k : Restart) : Type 0 where
  pub count : ℕ
  pub go : AllGo count w h v k

-- ---- a whole run

-- some steps go on, and the run ends with one more, however that ends
pub record EndsByStep (w : Drive) (h : Restart) (result : Result State NoMemory) (v : Drive) (k : Restart) : Type 0 where
  pub mid : Drive
  pub between : Restart
  pub gone : HasGone w h mid between
  pub last : Steps mid between result v k

-- or it ends between two steps, and says that memory is wanting
abbrev pub IsRun : Drive → Restart → Result State NoMemory → Drive → Restart → Type 0
IsRun w h result v k = EndsByStep w h result v k ⊎ (HasGone w h v k × WantsMemory result)

-- the run of a restart that is made for this disk
pub record IsRunAnew (w : Drive) (result : Result State NoMemory) (v : Drive) : Type 0 where
  pub begun : Restart
  pub left : Restart
  pub begins : IsBegun begun
  pub run : IsRun w begun result v left

-- where memory for the restart itself is wanting, the disk is as it was
abbrev pub RestartsDisk : Drive → Result State NoMemory → Drive → Type 0
RestartsDisk w result v = IsRunAnew w result v ⊎ ((v ≡ w) × WantsMemory result)
