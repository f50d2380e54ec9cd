-- The local moves of a member that is up that change its frames, and what else changes them without a move of the facility.
use Rattle.std.specs.Prelude.{ℕ, false, List}
use Rattle.ds_base.specs.declared.names.PageId.{PageId}
use Rattle.facility.specs.declared.command.Reply.{Reply}
use Rattle.facility.specs.States.{Held}
use Rattle.facility.specs.CacheCommands.{LosesCache}
use Rattle.member_marks.specs.Frames.{after_place, after_pin, after_unpin, after_registered}
use Rattle.member_effects.specs.Kept.{Kept}
use Rattle.member_effects.specs.Changes.{with_marks}
use Rattle.needs_law.specs.Lawful.{HoldsPage}
use Rattle.page_protocol.specs.Moves.{World}
use Rattle.page_world.specs.Holdings.{Holdings, with_facility}
use Rattle.page_intents.specs.Stands.{behind, Goes}
use Rattle.page_intents.specs.Frames.{Begins}

-- a page is placed in a free frame, if there is one
abbrev pub PlaceGoes : Type 0
PlaceGoes = (w : World) (g : Holdings) (content : ℕ → ℕ → List ℕ) (forced : ℕ → ℕ) (k : Kept) (page : PageId)
    → Begins w g content forced k → Goes w content forced (behind g g.facility k.marks.member (with_marks k (after_place k.marks page))) k.marks (with_marks k (after_place k.marks page))

-- a frame is pinned, and one pin less
abbrev pub PinGoes : Type 0
PinGoes = (w : World) (g : Holdings) (content : ℕ → ℕ → List ℕ) (forced : ℕ → ℕ) (k : Kept) (at : ℕ)
    → Begins w g content forced k → Goes w content forced (behind g g.facility k.marks.member (with_marks k (after_pin k.marks at))) k.marks (with_marks k (after_pin k.marks at))

abbrev pub UnpinGoes : Type 0
UnpinGoes = (w : World) (g : Holdings) (content : ℕ → ℕ → List ℕ) (forced : ℕ → ℕ) (k : Kept) (at : ℕ)
    → Begins w g content forced k → Goes w content forced (behind g g.facility k.marks.member (with_marks k (after_unpin k.marks at))) k.marks (with_marks k (after_unpin k.marks at))

-- a draw has found that the copy in a frame of the change isn't valid
abbrev pub StaleGoes : Type 0
StaleGoes = (w : World) (g : Holdings) (content : ℕ → ℕ → List ℕ) (forced : ℕ → ℕ) (k : Kept) (at : ℕ) (page : PageId)
    → Begins w g content forced k → HoldsPage k.marks at page → Goes w content forced (behind g g.facility k.marks.member (with_marks k (after_registered k.marks at false))) k.marks (with_marks k (after_registered k.marks at false))

-- the cache structure is lost, on the word of this member
abbrev pub LoseGoes : Type 0
LoseGoes = (w : World) (g : Holdings) (content : ℕ → ℕ → List ℕ) (forced : ℕ → ℕ) (k : Kept) (answer : Reply) (v : Held)
    → Begins w g content forced k → LosesCache g.facility answer v → Goes w content forced (with_facility g v) k.marks k
