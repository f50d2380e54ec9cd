-- A member that is up in its good world of pages, beside the disk and what the group holds.
use Rattle.std.specs.Prelude.{◌≡◌, ◌≢◌, ℕ, ◌≤◌, List, Some}
use Rattle.std.specs.FinMap.{insert}
use Rattle.ds_base.specs.declared.names.PageId.{PageId}
use Rattle.ds_disk.specs.Contents.{Contents}
use Rattle.ds_disk.specs.Pages as disk
use Rattle.list_structure.specs.Standings.{status_of}
use Rattle.member_resources.specs.Held.{Held}
use Rattle.member_resources.specs.Settled.{kept_of}
use Rattle.member_resources.specs.Events as event
use Rattle.member_resources.specs.Events.{Drive}
use Rattle.page_protocol.specs.Page.{put}
use Rattle.page_protocol.specs.Moves.{World, Move, Run}
use Rattle.page_world.specs.Numbers.{page_at, page_number, set_of}
use Rattle.page_world.specs.Holdings.{Holdings}
use Rattle.page_intents.specs.Plain.{ArePlain, none_waits}
use Rattle.page_intents.specs.Stands.{IsUp}
use Rattle.page_intents.specs.Frames.{Begins}
use Rattle.page_intents.specs.Castouts.{HasCast}

-- the disk tells its pages, and they are these
pub record Shows (drive : Drive) (pages : ℕ → List ℕ) : Type 0 where
  pub contents : Contents
  pub told : drive.contents ≡ Some contents
  pub each : (n : ℕ) → disk.page_at contents.pages (page_at n) ≡ pages n

-- so it does behind a page that was written there
abbrev pub WritesShow : Type 0
WritesShow = (d e : Drive) (pages : ℕ → List ℕ) (s : Shows d pages) (x : Contents) (id : PageId) (bytes : List ℕ) → e.contents ≡ Some x → x.pages ≡ insert s.contents.pages id bytes → Shows e (put pages (page_number id) bytes)

-- what the group holds is what is there, and of this member what it has
pub record Beside (w : World) (u : event.World) (g : Holdings) (content : ℕ → ℕ → List ℕ) (forced : ℕ → ℕ) (h : Held) : Type 0 where
  pub begins : Begins w g content forced (kept_of h)
  pub facility : g.facility ≡ u.facility
  pub drive : Shows u.drive g.disk
  pub cast : HasCast g h.marks.member h.cast h.buffer

-- ---- what an event of one member leaves of the others

-- the standings, logs, frames, castouts and page locks of all members but this one; and the counter doesn't fall
pub record SameOthers (g left : Holdings) (forced force : ℕ → ℕ) (m : ℕ) : Type 0 where
  pub members : left.facility.lists.members ≡ g.facility.lists.members
  pub statuses : (k : ℕ) → 1 ≤ k → k ≢ m → status_of left.facility.lists.statuses k ≡ status_of g.facility.lists.statuses k
  pub counter : g.facility.counter ≤ left.facility.counter
  pub log : (k : ℕ) → k ≢ m → force k ≡ forced k
  pub stable : (k : ℕ) → k ≢ m → left.stable k ≡ g.stable k
  pub written : (k : ℕ) → k ≢ m → left.written k ≡ g.written k
  pub copies : (k n : ℕ) → k ≢ m → left.copies k n ≡ g.copies k n
  pub casts : (k n : ℕ) → k ≢ m → left.casts k n ≡ g.casts k n
  pub keeps : (k n : ℕ) → k ≢ m → g.owner n ≡ Some k → left.owner n ≡ Some k
  pub takes : (k n : ℕ) → k ≢ m → left.owner n ≡ Some k → g.owner n ≡ Some k

-- each other member that was up still is, with what it casts out
abbrev pub OthersStayUp : Type 0
OthersStayUp = (g left : Holdings) (forced force : ℕ → ℕ) (m : ℕ) (h : Held) → SameOthers g left forced force m → h.marks.member ≢ m → IsUp g forced (kept_of h) → HasCast g h.marks.member h.cast h.buffer
    → IsUp left force (kept_of h) × HasCast left h.marks.member h.cast h.buffer

-- ---- what an event leads to

-- Moves lead to a good world beside what is left, in which the member is still up, and all else of the others is as it was. The
-- bytes of no version change. No move is a failure, and none is an append but where nothing waits in the member's log buffer behind it.
pub record Leads (w : World) (v : event.World) (g : Holdings) (content : ℕ → ℕ → List ℕ) (forced : ℕ → ℕ) (h k : Held) : Type 0 where
  pub moves : List Move
  pub world : World
  pub run : Run set_of w moves world
  pub plain : ArePlain (none_waits k.marks.log.pending) moves
  pub left : Holdings
  pub versions : ℕ → ℕ → List ℕ
  pub force : ℕ → ℕ
  pub beside : Beside world v left versions force k
  pub same : k.marks.member ≡ h.marks.member
  pub others : SameOthers g left forced force h.marks.member
  pub kept : (n i : ℕ) → i ≤ (w.pages n).last → versions n i ≡ content n i
