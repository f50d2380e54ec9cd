-- The page locks of a restart, its log buffer, and all that pages don't know of.
use Rattle.std.specs.Prelude.{◌≡◌, ℕ, false, List, Some, None}
use Rattle.ds_base.specs.declared.names.PageId.{PageId}
use Rattle.facility.specs.States.{Held as Facility}
use Rattle.restart_marks.specs.Undoing.{forced_after}
use Rattle.restart_resources.specs.Held.{Held, with_marks}
use Rattle.page_protocol.specs.Page.{put}
use Rattle.page_protocol.specs.Moves.{World, IsWritten}
use Rattle.page_world.specs.Numbers.{page_number}
use Rattle.page_world.specs.Holdings.{Holdings, KeepsPages, with_facility}
use Rattle.page_intents.specs.Logs.{all_forced}
use Rattle.page_intents.specs.Owners.{owned_by}
use Rattle.page_restarts.specs.Stands.{Begins, Goes, SameHand}

-- a page's lock is granted that nobody had
abbrev pub LockGoes : Type 0
LockGoes = (w : World) (g : Holdings) (content : ℕ → ℕ → List ℕ) (forced : ℕ → ℕ) (h t : Held) (p : PageId) (v : Facility)
    → Begins w g content forced h → g.owner (page_number p) ≡ None → KeepsPages g.facility v → SameHand h t → Goes w content forced (owned_by g v (page_number p) (Some h.marks.member)) h t

-- a page's lock is given up, or its retained record freed, where the member has not changed it since it was written, and its changes of it are
-- in the group's copy
abbrev pub GiveUpGoes : Type 0
GiveUpGoes = (w : World) (g : Holdings) (content : ℕ → ℕ → List ℕ) (forced : ℕ → ℕ) (h t : Held) (p : PageId) (v : Facility)
    → Begins w g content forced h → g.owner (page_number p) ≡ Some h.marks.member → (h.marks.hand.page ≡ Some p → h.marks.hand.changed ≡ false) → IsWritten w.group (w.pages (page_number p)) h.marks.member
    → KeepsPages g.facility v → SameHand h t → Goes w content forced (owned_by g v (page_number p) None) h t

-- the append of the log buffer was done
abbrev pub AppendGoes : Type 0
AppendGoes = (w : World) (g : Holdings) (content : ℕ → ℕ → List ℕ) (forced : ℕ → ℕ) (h : Held)
    → Begins w g content forced h → Goes w content (put forced h.marks.member h.marks.log.last) (all_forced g h.marks.member) h (with_marks h (forced_after h.marks))

-- all else is no move
abbrev pub StayGoes : Type 0
StayGoes = (w : World) (g : Holdings) (content : ℕ → ℕ → List ℕ) (forced : ℕ → ℕ) (h t : Held) (v : Facility)
    → Begins w g content forced h → KeepsPages g.facility v → SameHand h t → Goes w content forced (with_facility g v) h t
