-- The failure of the whole group, its restart over the disk alone, and its begin, as moves.
use Rattle.std.specs.Prelude.{◌≡◌, ℕ, ◌+◌, ◌<◌, ◌≤◌, ◌==◌, ◌&&◌, if◌then◌else◌, true, false, List, [], ◌∷◌, None}
use Rattle.cache_structure.specs.Directory.{empty_directory}
use Rattle.list_structure.specs.States.{IsNew}
use Rattle.page_protocol.specs.Page.{put}
use Rattle.page_protocol.specs.Moves.{World, Move, Run, start, GroupFail, Forward, Compensate, Append, Rise}
use Rattle.page_protocol.specs.Always.{Good}
use Rattle.page_world.specs.Numbers.{set_of}
use Rattle.page_world.specs.Holdings.{no_copy, no_cast, Holdings}
use Rattle.page_world.specs.Tied.{Tied, Moved}

-- what is left of a group that failed: by page the bytes on disk, by member how many records of its log draw a number, and the
-- greatest of these numbers
pub record Remains : Type 0 where
  pub disk : ℕ → List ℕ
  pub stable : ℕ → ℕ
  pub counter : ℕ

-- how a world stands beside it, until the group's restart has ended
pub record DownTied (w : World) (r : Remains) (content : ℕ → ℕ → List ℕ) : Type 0 where
  pub down : w.down ≡ true
  pub counter : w.group.counter ≡ r.counter
  pub stable : (m : ℕ) → w.group.stable m ≡ r.stable m
  pub written : (m : ℕ) → w.group.written m ≡ r.stable m
  pub disk : (n : ℕ) → r.disk n ≡ content n (w.pages n).disk
  pub clean : (n : ℕ) → (w.pages n).changed ≡ false

pub record DownMoved (w : World) (moves : List Move) (r : Remains) (content : ℕ → ℕ → List ℕ) : Type 0 where
  pub world : World
  pub run : Run set_of w moves world
  pub tied : DownTied world r content

-- no record on disk has a greater number
abbrev pub AreDrawn : World → ℕ → Type 0
AreDrawn w counter = (n i : ℕ) → (w.pages n).place i < w.group.stable ((w.pages n).author i) → (w.pages n).lrsn i ≤ counter

-- all members and the cache fail: of each page's changes those are cut that no log has on disk
abbrev pub FallsMoves : Type 0
FallsMoves = (w : World) (g : Holdings) (content : ℕ → ℕ → List ℕ) (counter : ℕ) → Good w → Tied w g content → AreDrawn w counter
    → (cut : ℕ → ℕ) × DownMoved w (GroupFail cut counter ∷ []) (record { disk = g.disk; stable = g.stable; counter = counter }) content

-- and once more, while the group's restart is in hand
abbrev pub FallsAgain : Type 0
FallsAgain = (w : World) (r : Remains) (content : ℕ → ℕ → List ℕ) (counter : ℕ) → Good w → DownTied w r content → AreDrawn w counter
    → (cut : ℕ → ℕ) × DownMoved w (GroupFail cut counter ∷ []) (record r { counter = counter }) content

-- the restart brings a page forward, and appends records that change no page
abbrev pub ForwardsMoves : Type 0
ForwardsMoves = (w : World) (r : Remains) (content : ℕ → ℕ → List ℕ) (n version : ℕ) → DownTied w r content → (w.pages n).disk ≤ version → version ≤ (w.pages n).last
    → DownMoved w (Forward n version ∷ []) (record r { disk = put r.disk n (content n version) }) content

abbrev pub AppendsMoves : Type 0
AppendsMoves = (w : World) (r : Remains) (content : ℕ → ℕ → List ℕ) (m : ℕ) → DownTied w r content
    → DownMoved w (Append m ∷ []) (record r { stable = put r.stable m (r.stable m + 1); counter = r.counter + 1 }) content

-- and it appends a compensation, behind which the page has one version more
abbrev pub content_with : (ℕ → ℕ → List ℕ) → ℕ → ℕ → List ℕ → ℕ → ℕ → List ℕ
content_with content n version bytes k v = if (k == n) && (v == version) then bytes else content k v

abbrev pub CompensatesMoves : Type 0
CompensatesMoves = (w : World) (r : Remains) (content : ℕ → ℕ → List ℕ) (n m : ℕ) (bytes : List ℕ) → Good w → DownTied w r content
    → DownMoved w (Compensate n m ∷ []) (record r { stable = put r.stable m (r.stable m + 1); counter = r.counter + 1 }) (content_with content n ((w.pages n).last + 1) bytes)

-- a group as it is made: nobody has a copy, a castout or a page lock
pub record IsMade (g : Holdings) : Type 0 where
  pub size : ℕ
  pub frames : ℕ
  pub agents : ℕ
  pub few : g.facility.lists.members ≤ 32
  pub directory : g.facility.directory ≡ empty_directory size frames
  pub lists : IsNew g.facility.lists g.facility.lists.members agents
  pub written : (m : ℕ) → g.written m ≡ g.stable m
  pub copies : (m n : ℕ) → g.copies m n ≡ no_copy
  pub casts : (m n : ℕ) → g.casts m n ≡ no_cast
  pub owner : (n : ℕ) → g.owner n ≡ None

-- the restart has brought each page to its last version, and the group begins anew
abbrev pub RisesMoves : Type 0
RisesMoves = (w : World) (r : Remains) (g : Holdings) (content : ℕ → ℕ → List ℕ)
    → Good w → DownTied w r content → ((n : ℕ) → (w.pages n).disk ≡ (w.pages n).last) → IsMade g → ((n : ℕ) → g.disk n ≡ r.disk n) → ((m : ℕ) → g.stable m ≡ r.stable m) → g.facility.counter ≡ r.counter
    → Moved w (Rise ∷ []) g content

-- a group over empty disks stands beside the start
abbrev pub StartsTied : Type 0
StartsTied = (g : Holdings) (content : ℕ → ℕ → List ℕ) → IsMade g → ((n : ℕ) → g.disk n ≡ content n 0) → ((m : ℕ) → g.stable m ≡ 0) → g.facility.counter ≡ 0 → Tied start g content
