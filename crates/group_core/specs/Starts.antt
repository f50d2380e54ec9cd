-- How a group starts.
use Rattle.std.specs.Prelude.{◌≡◌, ℕ, ◌≤◌, All, Bool, List, Option, Result, Ok, Err}
use Rattle.ds_base.specs.declared.fault.NoMemory.{NoMemory}
use Rattle.checkpoint_reader.specs.Ends.{end_of}
use Rattle.ds_disk.specs.Contents.{Becomes, Contents, log_of}
use Rattle.disk_restart.specs.Ends.{EndsAt}
use Rattle.disk_restart.specs.Runs.{RestartsDisk}
use Rattle.cache_structure.specs.Directory.{Directory}
-- given out again: where a group restart stands, and what a disk shows it of itself
pub use Rattle.group_restart.specs.declared.calls.State.{State}
pub use Rattle.group_restart.specs.declared.calls.State.TheVariants as state
pub use Rattle.group_crew.specs.Failing.{drive_of}
use Rattle.group_crew.specs.Happening.{MemberPart}
use Rattle.group_crew.specs.Making.{IsNewCrew}
use Rattle.group_core.specs.declared.fault.RunFault.{RunFault}
use Rattle.group_core.specs.declared.fault.RunFault.TheVariants as fault
use Rattle.group_core.specs.declared.group.Group.{Group}

-- Its facility is as it is made, no member holds anything, nothing is played, it has not failed, and no transaction has a fate.
abbrev pub IsFresh : {C D P : Type 0} → (C → Directory) → Group D C P → Type 0
IsFresh {C} {D} {P} directory group = IsNewCrew directory group.crew

-- each log is whole records, and ends where it is known to
abbrev pub EndsKnown : List ℕ → Contents → Type 0
EndsKnown known c = (member : ℕ) → 1 ≤ member → member ≤ 32 → EndsAt (end_of known member) (log_of c.logs member)

-- where the disk has told what it holds, each member knows where the logs end on it now
abbrev pub AllKnowDisk : {P : Type 0} → Option Contents → Option Contents → List (MemberPart P) → Type 0
AllKnowDisk {P} before now parts = All (λ (part : MemberPart P). Becomes before now (λ _ c. EndsKnown part.known c)) parts

-- ---- the group restart that opens a disk

-- a group restart was run over the disk, and was done, with this counter
abbrev pub IsOpenedTo : {D : Type 0} → (D → Bool) → (D → Option Contents) → D → ℕ → D → Type 0
IsOpenedTo {D} alive contents old counter new = RestartsDisk (drive_of alive contents old) (Ok (state.Done counter)) (drive_of alive contents new)

-- with some counter
abbrev pub IsOpened : {D : Type 0} → (D → Bool) → (D → Option Contents) → D → D → Type 0
IsOpened {D} alive contents old new = (counter : ℕ) × IsOpenedTo alive contents old counter new

-- it was stopped neither by damage nor by a call that failed
abbrev pub IsUnhurt : Result State NoMemory → Type 0
IsUnhurt (Ok state.Going) = Unit {0}
IsUnhurt (Ok (state.Done counter)) = Unit {0}
IsUnhurt (Ok (state.Damaged volume at)) = ⊥
IsUnhurt (Ok state.Failed) = ⊥
IsUnhurt (Err e) = Unit {0}

-- what it came to where this is why no group was started: memory may have been wanting behind it too
abbrev pub StopsBy : RunFault → Result State NoMemory → Type 0
StopsBy fault.Failed came = came ≡ Ok state.Failed
StopsBy (fault.Damaged volume at) came = came ≡ Ok (state.Damaged volume at)
StopsBy (fault.Unlawful place) came = ⊥
StopsBy fault.NoMemory came = IsUnhurt came

-- a group restart was run over the disk, and for this reason no group was started
pub record IsUnopened {D : Type 0} (alive : D → Bool) (contents : D → Option Contents) (old : D) (why : RunFault) (new : D) : Type 0 where
  pub came : Result State NoMemory
  pub run : RestartsDisk (drive_of alive contents old) came (drive_of alive contents new)
  pub stops : StopsBy why came
