-- The logs of which no member of the group is there.
use Rattle.std.specs.Prelude.{◌≡◌, ◌≢◌, ℕ, Bool, Option, Some}
use Rattle.ds_disk.specs.Contents.{Contents}
use Rattle.cache_structure.specs.Directory.{Directory}
use Rattle.claimed_logs.specs.Given.{AreNumbered, Group, Takes, crew_state}
use Rattle.claimed_logs.specs.Given.fault_variants as fault
use Rattle.rested_logs.specs.Rests.{OthersClose}

-- an event that isn't refused, and no call of a group restart, leaves them as they were
abbrev pub OthersStay : {C D : Type 0} → (P : Type 0) → (C → Directory) → (D → Bool) → (D → Option Contents) → (D → ℕ) → Type 0
OthersStay {C} {D} P directory alive contents count = (old new : Group D C P) (event : ℕ) (c d : Contents)
    → Takes directory alive contents count old event new → event ≢ 128 → ((at : ℕ) → new.fault ≢ Some (fault.Unlawful at)) → AreNumbered (crew_state directory old.crew)
    → contents old.disk ≡ Some c → contents new.disk ≡ Some d → OthersClose c (crew_state directory old.crew) → OthersClose d (crew_state directory old.crew)
