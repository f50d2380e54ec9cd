-- How a world of pages stands beside the group: its cache structure, disk, logs, frames, castouts and page locks.
use Rattle.std.specs.Prelude.{◌≡◌, ℕ, ◌≤◌, Bool, true, false, ◌&&◌, List, Option, Some, None, is_some}
use Rattle.list_structure.specs.Standings.{status_of}
use Rattle.page_protocol.specs.Page.{Page}
use Rattle.page_protocol.specs.Moves.{World, Move, Run}
use Rattle.page_world.specs.Numbers.{set_of}
use Rattle.page_world.specs.Holdings.{Copy, Holdings, PageHeld, held_of, as_status}

-- by version: its bytes
abbrev pub content_of : (ℕ → List ℕ) → Option ℕ → Option (List ℕ)
content_of content None = None
content_of content (Some v) = Some (content v)

-- the bit of a member's frame for its page
abbrev pub bit_in : Copy → Bool → Bool
bit_in c bound = c.placed && (c.noted && bound)

-- each copy of the page is a version of it, with that version's bytes
pub record PageTied (h : PageHeld) (p : Page) (content : ℕ → List ℕ) : Type 0 where
  -- in the cache structure and on disk
  pub bytes : h.bytes ≡ content_of content p.bytes
  pub changed : h.changed ≡ p.changed
  pub there : p.changed ≡ true → is_some p.bytes ≡ true
  pub castout : h.castout ≡ p.castout
  pub written : (m : ℕ) → p.castout ≡ Some m → h.written ≡ p.written_since
  pub disk : h.disk ≡ content p.disk
  -- in the frames of the members
  pub bit : (m : ℕ) → bit_in (h.copies m) (h.bound m) ≡ p.bit m
  pub own : (m : ℕ) → (h.copies m).placed ≡ true → (h.copies m).noted ≡ true → h.set m ≡ true → h.bound m ≡ true
  pub filled : (m : ℕ) → (h.copies m).filled ≡ (p.frame m).filled
  pub marked : (m : ℕ) → (h.copies m).marked ≡ (p.frame m).marked
  pub same : (m : ℕ) → (p.frame m).filled ≡ true → (h.copies m).bytes ≡ content (p.frame m).version
  pub indirect : (m : ℕ) → (p.frame m).direct ≡ false
  -- in the buffer of a castout, while its lock is held
  pub buffer : (m : ℕ) → (h.casts m).taken ≡ true → p.castout ≡ Some m → (h.casts m).bytes ≡ content p.buffer
  pub sent : (m : ℕ) → (h.casts m).taken ≡ true → p.castout ≡ Some m → (h.casts m).sent ≡ p.sent
  -- its lock
  pub owner : p.owner ≡ h.owner
  pub part : p.sole ≡ false

-- no two pages of a member are in one frame
abbrev pub AreApart : Holdings → Type 0
AreApart g = (m n k : ℕ) → (g.copies m n).placed ≡ true → (g.copies m k).placed ≡ true → (g.copies m n).index ≡ (g.copies m k).index → n ≡ k

-- while the group runs; by page and version: its bytes
pub record Tied (w : World) (g : Holdings) (content : ℕ → ℕ → List ℕ) : Type 0 where
  pub running : w.down ≡ false
  pub lost : w.group.lost ≡ g.facility.directory.lost
  pub counter : w.group.counter ≡ g.facility.counter
  -- of each member
  pub status : (m : ℕ) → 1 ≤ m → m ≤ g.facility.lists.members → w.group.status m ≡ as_status (status_of g.facility.lists.statuses m)
  pub stable : (m : ℕ) → w.group.stable m ≡ g.stable m
  pub written : (m : ℕ) → w.group.written m ≡ g.written m
  pub apart : AreApart g
  -- of each page
  pub pages : (n : ℕ) → PageTied (held_of g n) (w.pages n) (content n)

-- moves lead to a world that stands beside what an event left
pub record Moved (w : World) (moves : List Move) (g : Holdings) (content : ℕ → ℕ → List ℕ) : Type 0 where
  pub world : World
  pub run : Run set_of w moves world
  pub tied : Tied world g content
