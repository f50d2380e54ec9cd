-- A member whose restart has read its log, beside the pages of the group: what it has of them is the page in its hand.
use Rattle.std.specs.Prelude.{◌≡◌, ℕ, ◌≤◌, ◌==◌, ◌||◌, true, if◌then◌else◌, List, Option, Some, None}
use Rattle.ds_base.specs.declared.names.PageId.{PageId}
use Rattle.page_format.specs.Fields.{lrsn_of}
use Rattle.cache_structure.specs.Sound.{IsSound}
use Rattle.list_structure.specs.declared.standing.MemberStatus.TheVariants.{Restarting}
use Rattle.list_structure.specs.Standings.{status_of}
use Rattle.facility.specs.States.{Held as Facility}
use Rattle.restart_marks.specs.declared.hand.Hand.{Hand}
use Rattle.restart_resources.specs.Held.{Held}
use Rattle.page_protocol.specs.Moves.{World, Move}
use Rattle.page_protocol.specs.Always.{Good}
use Rattle.page_world.specs.Numbers.{page_number}
use Rattle.page_world.specs.Holdings.{Copy, no_copy, Holdings}
use Rattle.page_world.specs.Tied.{Tied, Moved}
use Rattle.page_intents.specs.Numbers.{AreNumbered}
use Rattle.page_intents.specs.Stands.{AreBehind}

-- ---- the page in hand as a copy, in the one frame that a restart has

abbrev pub hand_copy : Hand → List ℕ → Copy
hand_copy hand page = record { placed = true; index = 0; filled = hand.filled; marked = hand.changed; noted = hand.registered || hand.filled; bytes = page }

abbrev pub copy_for : Copy → Option PageId → ℕ → Copy
copy_for c None n = no_copy
copy_for c (Some p) n = if n == page_number p then c else no_copy

-- the copy of the page of this number
abbrev pub copy_of : Held → ℕ → Copy
copy_of h n = copy_for (hand_copy h.marks.hand h.page) h.marks.hand.page n

-- ---- the member

-- its restart is in hand; its log stands on disk up to the number that its marks know, and behind that its log buffer has the rest of what
-- was written; a page that it has changed is there, and shows the number of its last change; and it has no other copy
pub record IsRestarting (g : Holdings) (forced : ℕ → ℕ) (h : Held) : Type 0 where
  pub least : 1 ≤ h.marks.member
  pub among : h.marks.member ≤ g.facility.lists.members
  pub restarts : status_of g.facility.lists.statuses h.marks.member ≡ Restarting
  pub log : forced h.marks.member ≡ h.marks.log.stable
  pub last : h.marks.log.last ≤ g.facility.counter
  pub pending : AreBehind (g.stable h.marks.member) (g.written h.marks.member) h.marks.log.pending
  pub full : h.marks.hand.changed ≡ true → h.marks.hand.filled ≡ true
  pub shows : h.marks.hand.changed ≡ true → lrsn_of h.page ≡ h.marks.hand.last
  pub copies : (n : ℕ) → g.copies h.marks.member n ≡ copy_of h n

-- a good world stands beside a group with this member
pub record Begins (w : World) (g : Holdings) (content : ℕ → ℕ → List ℕ) (forced : ℕ → ℕ) (h : Held) : Type 0 where
  pub good : Good w
  pub tied : Tied w g content
  pub numbered : AreNumbered w content forced
  pub sound : IsSound g.facility.directory
  pub restarts : IsRestarting g forced h

-- what the group holds behind an event of it that leaves this of the facility, and this in its hand
abbrev pub behind : Holdings → Facility → ℕ → Held → Holdings
behind g v m t = record g { facility = v; copies = λ k n. if k == m then copy_of t n else g.copies k n }

-- moves lead to a world that stands beside what an event of it has left, whose versions still show their numbers, with the castout locks as
-- they were; and its restart is still in hand
pub record Goes (w : World) (content : ℕ → ℕ → List ℕ) (forced : ℕ → ℕ) (left : Holdings) (h t : Held) : Type 0 where
  pub moves : List Move
  pub moved : Moved w moves left content
  pub numbered : AreNumbered moved.world content forced
  pub casts : (n : ℕ) → (moved.world.pages n).castout ≡ (w.pages n).castout
  pub same : t.marks.member ≡ h.marks.member
  pub stands : IsRestarting left forced t

-- and no page has changed, and nothing of the own log
pub record GoesAlong (w : World) (content : ℕ → ℕ → List ℕ) (forced : ℕ → ℕ) (left : Holdings) (h t : Held) : Type 0 where
  pub goes : Goes w content forced left h t
  pub last : (n : ℕ) → (goes.moved.world.pages n).last ≡ (w.pages n).last
  pub own : t.marks.own ≡ h.marks.own

-- ---- an event that leaves the page in hand, and the log
pub record SameHand (h t : Held) : Type 0 where
  pub member : t.marks.member ≡ h.marks.member
  pub log : t.marks.log ≡ h.marks.log
  pub page : t.marks.hand.page ≡ h.marks.hand.page
  pub copy : hand_copy t.marks.hand t.page ≡ hand_copy h.marks.hand h.page
  pub last : t.marks.hand.last ≡ h.marks.hand.last
