-- A disk to which nothing but group restarts has written, and where damage was met that is told of it.
use Rattle.std.specs.Prelude.{◌≡◌, ◌⊎◌, ℕ, Bool, List, [], ◌∷◌, Option, Result, Ok}
use Rattle.ds_base.specs.declared.fault.NoMemory.{NoMemory}
use Rattle.ds_base.specs.declared.names.Volume.{Volume}
use Rattle.ds_base.specs.declared.names.Volume.TheVariants as volume
use Rattle.ds_disk.specs.Contents.{Contents, WhenTold, Becomes, Same}
use Rattle.group_restart.specs.declared.calls.State.{State}
use Rattle.group_restart.specs.declared.calls.State.TheVariants as state
use Rattle.disk_restart.specs.Runs.{RestartsDisk}
use Rattle.opening_rows.specs.Reading.{BreaksAt}

-- ---- damage

-- a log has a field at this byte that isn't allowed, or a number that falls
abbrev pub LogBreaksAt : Volume → ℕ → Contents → Type 0
LogBreaksAt (volume.Log member) at c = BreaksAt member at c
LogBreaksAt (volume.Page id) at c = ⊥

-- one of the group restarts that came to these has named it
abbrev pub IsNamed : List (Result State NoMemory) → Volume → ℕ → Type 0
IsNamed [] v at = ⊥
IsNamed (came ∷ more) v at = (came ≡ Ok (state.Damaged v at)) ⊎ IsNamed more v at

-- ---- what was written

-- a group restart that was made for the disk was run over it, and came to this
abbrev pub Restarts : {D : Type 0} → (D → Bool) → (D → Option Contents) → D → Result State NoMemory → D → Type 0
Restarts {D} alive contents old came new = RestartsDisk (record { alive = alive old; contents = contents old }) came (record { alive = alive new; contents = contents new })

-- Group restarts were run over the disk, one after the other, and came to these. Before each, and behind the last, nothing has changed.
abbrev pub AreRun : {D : Type 0} → (D → Bool) → (D → Option Contents) → D → List (Result State NoMemory) → D → Type 0
AreRun {D} alive contents old [] new = Becomes (contents old) (contents new) Same
AreRun {D} alive contents old (came ∷ more) new =
    (read : D) × ((left : D) × (Becomes (contents old) (contents read) Same × (Restarts alive contents read came left × AreRun alive contents left more new)))

-- nothing was written, and damage that is told of is that of a log
pub record IsUnwritten {D : Type 0} (contents : D → Option Contents) (old : D) (Tells : Volume → ℕ → Type 0) (new : D) : Type 0 where
  pub same : Becomes (contents old) (contents new) Same
  pub damaged : (v : Volume) (at : ℕ) → Tells v at → WhenTold (contents old) (LogBreaksAt v at)

-- group restarts alone have written, and damage that is told of was named by one of them
pub record IsRestarted {D : Type 0} (alive : D → Bool) (contents : D → Option Contents) (old : D) (Tells : Volume → ℕ → Type 0) (new : D) : Type 0 where
  pub came : List (Result State NoMemory)
  pub run : AreRun alive contents old came new
  pub named : (v : Volume) (at : ℕ) → Tells v at → IsNamed came v at

-- nothing but group restarts has written to the disk, and damage that is told of was met in its logs, or by one of them
abbrev pub IsLeftByRestarts : {D : Type 0} → (D → Bool) → (D → Option Contents) → D → (Volume → ℕ → Type 0) → D → Type 0
IsLeftByRestarts {D} alive contents old Tells new = IsUnwritten contents old Tells new ⊎ IsRestarted alive contents old Tells new
