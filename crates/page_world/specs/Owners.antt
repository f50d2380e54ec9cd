-- The page locks of members and what stands in their logs, as moves.
use Rattle.std.specs.Prelude.{◌≡◌, ℕ, ◌≤◌, false, List, [], ◌∷◌, Some, None}
use Rattle.list_structure.specs.declared.standing.MemberStatus.TheVariants as standing
use Rattle.list_structure.specs.Standings.{status_of}
use Rattle.facility.specs.States.{Held}
use Rattle.page_protocol.specs.Page.{put}
use Rattle.page_protocol.specs.Moves.{World, At, Lock, Unlock, Purge, Force, IsWritten}
use Rattle.page_world.specs.Holdings.{Holdings, KeepsPages, with_facility}
use Rattle.page_world.specs.Tied.{Tied, Moved}
use Rattle.page_world.specs.Cache.{IsLive}

-- nobody had the page's lock
abbrev pub LocksMoves : Type 0
LocksMoves = (w : World) (g : Holdings) (content : ℕ → ℕ → List ℕ) (m n : ℕ) (v : Held) → Tied w g content → IsLive g m → g.owner n ≡ None → KeepsPages g.facility v
    → Moved w (At n (Lock m) ∷ []) (with_facility (record g { owner = put g.owner n (Some m) }) v) content

-- a member that is up gives the lock of a page up that it has not changed since it was written
abbrev pub UnlocksMoves : Type 0
UnlocksMoves = (w : World) (g : Holdings) (content : ℕ → ℕ → List ℕ) (m n : ℕ) (v : Held)
    → Tied w g content → 1 ≤ m → m ≤ g.facility.lists.members → status_of g.facility.lists.statuses m ≡ standing.Up → g.owner n ≡ Some m → (g.copies m n).marked ≡ false → KeepsPages g.facility v
    → Moved w (At n (Unlock m) ∷ []) (with_facility (record g { owner = put g.owner n None }) v) content

-- and so does one that restarts, whose own changes of the page are in the group's copy
abbrev pub PurgesMoves : Type 0
PurgesMoves = (w : World) (g : Holdings) (content : ℕ → ℕ → List ℕ) (m n : ℕ) (v : Held)
    → Tied w g content → 1 ≤ m → m ≤ g.facility.lists.members → status_of g.facility.lists.statuses m ≡ standing.Restarting → g.owner n ≡ Some m → (g.copies m n).marked ≡ false → IsWritten w.group (w.pages n) m → KeepsPages g.facility v
    → Moved w (At n (Purge m) ∷ []) (with_facility (record g { owner = put g.owner n None }) v) content

-- so many records of the log are on disk now
abbrev pub ForcesMoves : Type 0
ForcesMoves = (w : World) (g : Holdings) (content : ℕ → ℕ → List ℕ) (m k : ℕ) → Tied w g content → g.stable m ≤ k → k ≤ g.written m
    → Moved w (Force m k ∷ []) (record g { stable = put g.stable m k }) content
