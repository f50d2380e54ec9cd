-- What the policy of a restart does by local moves: pages that it takes up and puts aside, and transactions that it closes.
use Rattle.std.specs.Prelude.{◌≡◌, ℕ, true, List, is_some}
use Rattle.restart_marks.specs.State.{no_hand, with_hand}
use Rattle.restart_resources.specs.Events.{Ends}
use Rattle.restart_resources.specs.Held.{Held, with_marks}
use Rattle.page_protocol.specs.Moves.{World}
use Rattle.page_world.specs.Holdings.{Holdings}
use Rattle.page_restarts.specs.Stands.{Begins, Goes, GoesAlong, behind}

-- a page that it has changed may be put aside, whatever the member casts out: all records that it has drawn are on disk, so that its own log
-- brings the page forward once more
abbrev pub PutsAside : Type 0
PutsAside = (w : World) (g : Holdings) (content : ℕ → ℕ → List ℕ) (forced : ℕ → ℕ) (h : Held)
    → Begins w g content forced h → h.marks.hand.changed ≡ true → g.stable h.marks.member ≡ g.written h.marks.member
    → GoesAlong w content forced (behind g g.facility h.marks.member (with_marks h (with_hand h.marks no_hand))) h (with_marks h (with_hand h.marks no_hand))

-- so it is of a changed page in hand whose record is still retained, as long as no change was taken back
abbrev pub MayPark : Holdings → Held → Type 0
MayPark g h = h.marks.hand.changed ≡ true → is_some h.marks.hand.key ≡ true → g.stable h.marks.member ≡ g.written h.marks.member

-- whatever the policy does
abbrev pub ReachesGo : Type 0
ReachesGo = (w : World) (g : Holdings) (content : ℕ → ℕ → List ℕ) (forced : ℕ → ℕ) (h k : Held)
    → Begins w g content forced h → MayPark g h → Ends h k → Goes w content forced (behind g g.facility h.marks.member k) h k
