-- What members do to their frames, as moves, and what a test of one tells.
use Rattle.std.specs.Prelude.{◌≡◌, ◌≢◌, ℕ, ◌≤◌, true, false, if◌then◌else◌, List, [], ◌∷◌, Some}
use Rattle.list_structure.specs.declared.standing.MemberStatus.TheVariants as standing
use Rattle.list_structure.specs.Standings.{status_of}
use Rattle.cache_structure.specs.Directory.{bit}
use Rattle.facility.specs.declared.command.Reply.{Reply}
use Rattle.facility.specs.declared.command.Reply.TheVariants as reply
use Rattle.facility.specs.States.{Held}
use Rattle.facility.specs.CacheCommands.{UnregistersFrame, TestsFrame}
use Rattle.page_protocol.specs.Page.{AllStable}
use Rattle.page_protocol.specs.Moves.{World, At, DropFrame, PutAside, ReadDisk, Redo}
use Rattle.page_world.specs.Holdings.{Copy, no_copy, Holdings, with_copy, with_facility}
use Rattle.page_world.specs.Tied.{Tied, Moved}
use Rattle.page_world.specs.Cache.{IsLive, HasFrame}

-- a page is placed in a frame of the member that has none, whatever that is registered for
abbrev pub placed_copy : ℕ → Copy
placed_copy index = record no_copy { placed = true; index = index }

abbrev pub PlacesStays : Type 0
PlacesStays = (w : World) (g : Holdings) (content : ℕ → ℕ → List ℕ) (m n index : ℕ)
    → Tied w g content → g.copies m n ≡ no_copy → ((k : ℕ) → (g.copies m k).placed ≡ true → (g.copies m k).index ≢ index)
    → Moved w [] (with_copy g m n (placed_copy index)) content

-- a frame that has no bytes is filled with the disk's page
abbrev pub filled_copy : Copy → List ℕ → Copy
filled_copy c bytes = record c { filled = true; bytes = bytes }

abbrev pub FillsMoves : Type 0
FillsMoves = (w : World) (g : Holdings) (content : ℕ → ℕ → List ℕ) (m n : ℕ)
    → Tied w g content → IsLive g m → (g.copies m n).filled ≡ false
    → Moved w (At n (ReadDisk m) ∷ []) (with_copy g m n (filled_copy (g.copies m n) (g.disk n))) content

-- a member that restarts brings a valid copy of a page that it has retained to the last version, by its own log
abbrev pub redone_copy : Copy → List ℕ → Copy
redone_copy c bytes = record c { filled = true; marked = true; bytes = bytes }

abbrev pub RedoesMoves : Type 0
RedoesMoves = (w : World) (g : Holdings) (content : ℕ → ℕ → List ℕ) (m n index : ℕ)
    → Tied w g content → 1 ≤ m → m ≤ g.facility.lists.members → status_of g.facility.lists.statuses m ≡ standing.Restarting → g.owner n ≡ Some m → HasFrame g m n index
    → (g.copies m n).noted ≡ true → (g.copies m n).filled ≡ true → bit g.facility.directory m index ≡ true
    → Moved w (At n (Redo m) ∷ []) (with_copy g m n (redone_copy (g.copies m n) (content n (w.pages n).last))) content

-- a page leaves its frame, which may stay registered for it
abbrev pub LeavesMoves : Type 0
LeavesMoves = (w : World) (g : Holdings) (content : ℕ → ℕ → List ℕ) (m n : ℕ)
    → Tied w g content → (g.copies m n).marked ≡ false
    → Moved w (At n (DropFrame m) ∷ []) (with_copy g m n no_copy) content

-- so does one that it has changed leave the frame of a member that restarts, where all its changes stand on disk in their logs
abbrev pub AsideMoves : Type 0
AsideMoves = (w : World) (g : Holdings) (content : ℕ → ℕ → List ℕ) (m n : ℕ)
    → Tied w g content → 1 ≤ m → m ≤ g.facility.lists.members → status_of g.facility.lists.statuses m ≡ standing.Restarting → (g.copies m n).marked ≡ true → AllStable w.group (w.pages n) (w.pages n).last
    → Moved w (At n (PutAside m) ∷ []) (with_copy g m n no_copy) content

-- a page leaves its frame, and the registration is dropped with it
abbrev pub UnregistersMoves : Type 0
UnregistersMoves = (w : World) (g : Holdings) (content : ℕ → ℕ → List ℕ) (m n index : ℕ) (answer : Reply) (v : Held)
    → Tied w g content → HasFrame g m n index → (g.copies m n).marked ≡ false → UnregistersFrame g.facility m index answer v
    → Moved w (At n (DropFrame m) ∷ []) (with_facility (with_copy g m n no_copy) v) content

-- a test of a frame that was registered for the page that it has tells the page's bit
abbrev pub TestsTell : Type 0
TestsTell = (w : World) (g : Holdings) (content : ℕ → ℕ → List ℕ) (m n index : ℕ) (answer : Reply) (v : Held)
    → Tied w g content → HasFrame g m n index → (g.copies m n).noted ≡ true → TestsFrame g.facility m index answer v
    → (answer ≡ (if (w.pages n).bit m then reply.Valid else reply.Invalid)) × (v ≡ g.facility)
