-- The loss of the cache structure and its rebuild, as moves, and what is none.
use Rattle.std.specs.Prelude.{◌≡◌, ℕ, true, if◌then◌else◌, List, [], ◌∷◌}
use Rattle.facility.specs.declared.command.Reply.{Reply}
use Rattle.facility.specs.States.{Held}
use Rattle.facility.specs.CacheCommands.{LosesCache, HasRebuilt}
use Rattle.page_protocol.specs.Page.{put}
use Rattle.page_protocol.specs.Moves.{World, At, Lose, ReadLog, Rebuild, Rebuilt, IsRead}
use Rattle.page_protocol.specs.Always.{Good}
use Rattle.page_world.specs.Holdings.{Holdings, KeepsPages, with_facility}
use Rattle.page_world.specs.Tied.{Tied, Moved}

-- what the world sees stays
abbrev pub StaysTied : Type 0
StaysTied = (w : World) (g : Holdings) (content : ℕ → ℕ → List ℕ) (v : Held) → Tied w g content → KeepsPages g.facility v → Moved w [] (with_facility g v) content

-- a loss of a cache that is lost is no move
abbrev pub LosesMoves : Type 0
LosesMoves = (w : World) (g : Holdings) (content : ℕ → ℕ → List ℕ) (answer : Reply) (v : Held)
    → Good w → Tied w g content → LosesCache g.facility answer v
    → Moved w (if g.facility.directory.lost then [] else Lose ∷ []) (with_facility g v) content

-- a log is read for the rebuild, to its end
abbrev pub ReadsLogMoves : Type 0
ReadsLogMoves = (w : World) (g : Holdings) (content : ℕ → ℕ → List ℕ) (m : ℕ) → Tied w g content → g.facility.directory.lost ≡ true → Moved w (ReadLog m ∷ []) g content

-- a page on disk is brought to what was read of the logs
abbrev pub RebuildsMoves : Type 0
RebuildsMoves = (w : World) (g : Holdings) (content : ℕ → ℕ → List ℕ) (n version : ℕ) → Tied w g content → g.facility.directory.lost ≡ true → IsRead w.group (w.pages n) version
    → Moved w (At n (Rebuild version) ∷ []) (record g { disk = put g.disk n (content n version) }) content

-- the rebuild has brought each page forward; where the cache isn't lost this is no move
abbrev pub RebuiltMoves : Type 0
RebuiltMoves = (w : World) (g : Holdings) (content : ℕ → ℕ → List ℕ) (answer : Reply) (v : Held)
    → Tied w g content → (g.facility.directory.lost ≡ true → (n : ℕ) → IsRead w.group (w.pages n) (w.pages n).disk) → HasRebuilt g.facility answer v
    → Moved w (if g.facility.directory.lost then Rebuilt ∷ [] else []) (with_facility g v) content
