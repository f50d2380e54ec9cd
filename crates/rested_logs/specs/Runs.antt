-- Whole runs of a group over a disk that told what it held when it was opened.
use Rattle.std.specs.Prelude.{◌≡◌, ◌≢◌, ℕ, ◌≤◌, Bool, false, List, ◌∷◌, ◌++◌, length, Option, Some, is_some}
use Rattle.ds_disk.specs.Contents.{Contents, WhenTold}
use Rattle.cache_structure.specs.Directory.{Directory}
use Rattle.sound_disk.specs.Sound.{IsSoundDisk}
use Rattle.restart_soundness.specs.Left_out.{LeavesOutClosed}
use Rattle.lock_protocol.specs.Machine.{World}
use Rattle.claimed_logs.specs.Given.{AllKnowDisk, Group, IsFresh, IsOpenedTo, IsSafe, RunsFresh, StandsBeside, crew_state}
use Rattle.claimed_logs.specs.Given.fault_variants as fault
use Rattle.claimed_logs.specs.Taken.{LogsStand}
use Rattle.rested_logs.specs.Rests.{OthersClose}

-- ---- where a run starts

-- The group has just started, over a disk that a group restart has opened. The disk told these contents before: they are sound, and what is left out of
-- the logs is closed. The members are as many as the sizes say, at most 32, with at most 16 agents each.
pub record StartsOver {C D P : Type 0} (directory : C → Directory) (alive : D → Bool) (contents : D → Option Contents) (opened : D) (c : Contents) (first : Group D C P) : Type 0 where
  pub told : contents opened ≡ Some c
  pub sound : IsSoundDisk c
  pub closed : LeavesOutClosed c
  pub opens : IsOpenedTo alive contents opened first.crew.facility.counter first.disk
  pub known : AllKnowDisk (contents opened) (contents first.disk) first.crew.parts.items
  pub fresh : IsFresh directory first
  pub count : length first.crew.parts.items ≡ first.crew.sizes.sizes.members
  pub few : first.crew.sizes.sizes.members ≤ 32
  pub agents : first.crew.sizes.sizes.agents ≤ 16

-- Wherever event 64, by which the whole group fails, stands among the events, the disk is sound before it. It isn't shown yet that a running group
-- leaves its disk sound.
abbrev pub FailsSound : {C D P : Type 0} → (C → Directory) → (D → Bool) → (D → Option Contents) → (D → ℕ) → Group D C P → List ℕ → Type 0
FailsSound {C} {D} {P} directory alive contents count first events = (front back : List ℕ) (group : Group D C P)
    → events ≡ front ++ 64 ∷ back → RunsFresh directory alive contents count first front group → WhenTold (contents group.disk) IsSoundDisk

-- ---- where it leads

-- While no group restart is in hand the disk tells contents whose logs stand beside a world of locks beside which the group stands; and the logs of
-- which no member is there leave nothing open.
pub record StandsLogged {C D P : Type 0} (directory : C → Directory) (contents : D → Option Contents) (group : Group D C P) : Type 0 where
  pub told : Contents
  pub is : contents group.disk ≡ Some told
  pub world : World
  pub stands : StandsBeside (crew_state directory group.crew) world
  pub logs : LogsStand told (crew_state directory group.crew) world
  pub others : OthersClose told (crew_state directory group.crew)

-- The claims that members know of agree. While no group restart is in hand, the logs stand, and a sound disk leaves out of its logs what is closed
-- alone, as at the start of a run.
pub record EndsLogged {C D P : Type 0} (directory : C → Directory) (contents : D → Option Contents) (group : Group D C P) : Type 0 where
  pub safe : IsSafe (crew_state directory group.crew)
  pub stands : is_some group.crew.restart ≡ false → StandsLogged directory contents group
  pub leaves : is_some group.crew.restart ≡ false → WhenTold (contents group.disk) (λ c. IsSoundDisk c → LeavesOutClosed c)

-- So it is wherever events lead that are taken from such a start, none of which is refused, if the whole group fails over sound disks alone.
abbrev pub LockedRunsStand : {C D : Type 0} → (P : Type 0) → (C → Directory) → (D → Bool) → (D → Option Contents) → (D → ℕ) → Type 0
LockedRunsStand {C} {D} P directory alive contents count = (opened : D) (c : Contents) (first : Group D C P) (events : List ℕ) (last : Group D C P)
    → StartsOver directory alive contents opened c first → RunsFresh directory alive contents count first events last → FailsSound directory alive contents count first events
    → ((at : ℕ) → last.fault ≢ Some (fault.Unlawful at)) → EndsLogged directory contents last
