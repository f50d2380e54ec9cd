-- The end of a restart: the member owns no page.
use Rattle.std.specs.Prelude.{◌≡◌, ◌≢◌, ℕ, List, Option, Some, Ok}
use Rattle.facility.specs.States.{Held as Facility}
use Rattle.member_intents.specs.declared.outcome.Answered.{Answered}
use Rattle.member_resources.specs.Events.{World as Outside}
use Rattle.restart_marks.specs.declared.intent.RestartIntent.TheVariants as intent
use Rattle.restart_marks.specs.declared.intent.RestartSent.{RestartSent}
use Rattle.restart_marks.specs.Needs.{need_of}
use Rattle.restart_marks.specs.State.{RestartState}
use Rattle.restart_resources.specs.Events.{Happens}
use Rattle.restart_resources.specs.Held.{Held}
use Rattle.page_protocol.specs.Moves.{World}
use Rattle.page_world.specs.Holdings.{Holdings}
use Rattle.page_restarts.specs.Beside.{Beside, as_restarting}
use Rattle.page_restarts.specs.Events.{IsOver}
use Rattle.restart_owners.specs.Listing.{IsListing}
use Rattle.restart_owners.specs.Owners.{OwnsRestarting}

-- where it may end, all retained pages were recovered, and no lock is left
abbrev pub EndsFree : Type 0
EndsFree = (f : Facility) (owner : ℕ → Option ℕ) (s : RestartState) (x : RestartSent) → IsListing f s → OwnsRestarting f owner s → need_of s intent.Up ≡ Ok x → (n : ℕ) → owner n ≢ Some s.member

abbrev pub EndsGo : Type 0
EndsGo = (w : World) (u v : Outside) (g : Holdings) (content : ℕ → ℕ → List ℕ) (forced : ℕ → ℕ) (h k : Held) (s : RestartSent) (a : Answered)
    → Beside w u g content forced h → IsListing u.facility h.marks → OwnsRestarting u.facility g.owner h.marks → (happens : Happens (as_restarting u) h s a (as_restarting v) k) → happens.intent ≡ intent.Up → IsOver w v g content forced h.marks.member
