-- A number that a restart draws for a compensation, with the page in its hand that it changes.
use Rattle.std.specs.Prelude.{◌≡◌, ◌⊎◌, ℕ, ◌+◌, ◌==◌, true, List, [], ◌∷◌, Some}
use Rattle.ds_base.specs.declared.names.PageId.{PageId}
use Rattle.page_format.specs.Fields.{lrsn_of}
use Rattle.facility.specs.declared.command.Reply.TheVariants as reply
use Rattle.facility.specs.Counting.{DrawsUndo}
use Rattle.facility.specs.States.{Held as Facility}
use Rattle.restart_resources.specs.Held.{Held}
use Rattle.page_protocol.specs.Page.{put}
use Rattle.page_protocol.specs.Moves.{World, IsWritten}
use Rattle.page_world.specs.Draws.{content_behind}
use Rattle.page_world.specs.Holdings.{Holdings}
use Rattle.page_world.specs.Numbers.{page_number}
use Rattle.page_intents.specs.Stands.{AreBehind}
use Rattle.page_restarts.specs.Stands.{Begins, Goes, behind}

-- the page shows the number now, and its record stands in the log buffer
pub record IsUndone (g : Holdings) (h t : Held) (p : PageId) (number : ℕ) : Type 0 where
  pub member : t.marks.member ≡ h.marks.member
  pub page : t.marks.hand.page ≡ Some p
  pub filled : t.marks.hand.filled ≡ true
  pub changed : t.marks.hand.changed ≡ true
  pub last : t.marks.hand.last ≡ number
  pub shows : lrsn_of t.page ≡ number
  pub stable : t.marks.log.stable ≡ h.marks.log.stable
  pub log : t.marks.log.last ≡ number
  pub pending : AreBehind (g.stable h.marks.member) (g.written h.marks.member + 1) t.marks.log.pending

abbrev pub undone_behind : Holdings → Facility → ℕ → Held → Holdings
undone_behind g v m t = record (behind g v m t) { written = put g.written m (g.written m + 1) }

-- of a page that it owns, with all of its own changes: it has changed it, or they are in the group's copy
abbrev pub UndoGoes : Type 0
UndoGoes = (w : World) (g : Holdings) (content : ℕ → ℕ → List ℕ) (forced : ℕ → ℕ) (h t : Held) (p : PageId) (number : ℕ) (v : Facility)
    → Begins w g content forced h → h.marks.hand.page ≡ Some p → h.marks.hand.filled ≡ true → g.owner (page_number p) ≡ Some h.marks.member
    → (h.marks.hand.changed ≡ true) ⊎ IsWritten w.group (w.pages (page_number p)) h.marks.member
    → DrawsUndo g.facility h.marks.member (record { count = 1; at = 0 ∷ 0 ∷ 0 ∷ [] }) (reply.Drawn number) v → IsUndone g h t p number
    → Goes w (content_behind w (λ j. j == page_number p) (λ j. t.page) content) forced (undone_behind g v h.marks.member t) h t
