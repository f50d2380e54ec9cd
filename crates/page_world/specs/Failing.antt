-- A member that fails, restarts and is up again, as moves.
use Rattle.std.specs.Prelude.{◌≡◌, ◌≢◌, ℕ, ◌≤◌, ◌==◌, if◌then◌else◌, List, [], ◌∷◌, Some}
use Rattle.list_structure.specs.declared.standing.MemberStatus.TheVariants as standing
use Rattle.list_structure.specs.Standings.{status_of}
use Rattle.facility.specs.States.{Held, MemberFailed}
use Rattle.page_protocol.specs.Page.{put}
use Rattle.page_protocol.specs.Moves.{World, Fail, Restart, Open}
use Rattle.page_protocol.specs.Always.{Good}
use Rattle.page_world.specs.Holdings.{no_copy, no_cast, Holdings, StandsAs, with_facility}
use Rattle.page_world.specs.Tied.{Tied, Moved}

-- the member's frames, its castout and what its log hadn't on disk are gone
abbrev pub without : Holdings → ℕ → Holdings
without g m = record g {
  written = put g.written m (g.stable m);
  copies = λ k n. if k == m then no_copy else g.copies k n;
  casts = λ k n. if k == m then no_cast else g.casts k n;
}

-- of each page's changes those are cut that its log hadn't on disk; its page locks are retained
abbrev pub FailsMoves : Type 0
FailsMoves = (w : World) (g : Holdings) (content : ℕ → ℕ → List ℕ) (m : ℕ) (v : Held) → Good w → Tied w g content → 1 ≤ m → MemberFailed g.facility m v
    → (cut : ℕ → ℕ) × Moved w (Fail m cut ∷ []) (with_facility (without g m) v) content

abbrev pub RestartsMoves : Type 0
RestartsMoves = (w : World) (g : Holdings) (content : ℕ → ℕ → List ℕ) (m : ℕ) (v : Held)
    → Tied w g content → 1 ≤ m → m ≤ g.facility.lists.members → status_of g.facility.lists.statuses m ≡ standing.Failed → StandsAs g.facility v m standing.Restarting
    → Moved w (Restart m ∷ []) (with_facility g v) content

-- it has no page lock any more
abbrev pub OpensMoves : Type 0
OpensMoves = (w : World) (g : Holdings) (content : ℕ → ℕ → List ℕ) (m : ℕ) (v : Held)
    → Tied w g content → 1 ≤ m → m ≤ g.facility.lists.members → status_of g.facility.lists.statuses m ≡ standing.Restarting → ((n : ℕ) → g.owner n ≢ Some m) → StandsAs g.facility v m standing.Up
    → Moved w (Open m ∷ []) (with_facility g v) content
