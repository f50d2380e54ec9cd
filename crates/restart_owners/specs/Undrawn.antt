-- A restart draws no number before all retained pages are recovered; so where it puts a changed page aside, its own log has all changes of it.
use Rattle.std.specs.Prelude.{◌≡◌, ◌≢◌, ℕ, true, false, List, Some}
use Rattle.member_intents.specs.declared.outcome.Answered.{Answered}
use Rattle.member_resources.specs.Events.{World as Outside}
use Rattle.restart_records.specs.declared.queue.TurnKey.{TurnKey}
use Rattle.restart_marks.specs.declared.intent.RestartSent.{RestartSent}
use Rattle.restart_marks.specs.Moves.{is_recovered}
use Rattle.restart_marks.specs.State.{IsFresh, RestartState}
use Rattle.restart_resources.specs.Events.{Happens}
use Rattle.restart_resources.specs.Held.{Held}
use Rattle.page_protocol.specs.Moves.{World}
use Rattle.page_world.specs.Holdings.{Holdings}
use Rattle.page_restarts.specs.Beside.{LeavesMember, SameOthers, as_restarting}
use Rattle.page_restarts.specs.Events.{IsQuiet}
use Rattle.restart_owners.specs.Listing.{IsListing, is_among}
use Rattle.restart_owners.specs.Stages.{StageLeads}

-- a retained page in its hand is one of those that it knows; and as long as one may be left, all records that its member has drawn are on disk
pub record IsUndrawn (g : Holdings) (s : RestartState) : Type 0 where
  pub keyed : (key : TurnKey) → s.hand.key ≡ Some key → is_among s.pages key.page ≡ true
  pub level : is_recovered s ≡ false → g.stable s.member ≡ g.written s.member

-- so it is from its begin on, behind each event of it, of any other member, and of its own that casts a page out
abbrev pub UndrawnBegins : Type 0
UndrawnBegins = (g : Holdings) (m : ℕ) (s : RestartState) → IsFresh m s → g.written m ≡ g.stable m → IsUndrawn g s

abbrev pub UndrawnGoes : Type 0
UndrawnGoes = (w : World) (u v : Outside) (g : Holdings) (content : ℕ → ℕ → List ℕ) (forced : ℕ → ℕ) (h k : Held) (s : RestartSent) (a : Answered)
    → IsListing u.facility h.marks → IsUndrawn g h.marks → Happens (as_restarting u) h s a (as_restarting v) k → (leads : StageLeads w v g content forced h k s a) → IsUndrawn leads.left k.marks

abbrev pub UndrawnStays : Type 0
UndrawnStays = (g left : Holdings) (forced force : ℕ → ℕ) (m : ℕ) (s : RestartState) → SameOthers g left forced force m → s.member ≢ m → IsUndrawn g s → IsUndrawn left s

abbrev pub UndrawnCasts : Type 0
UndrawnCasts = (g left : Holdings) (s : RestartState) → LeavesMember g left s.member → IsUndrawn g s → IsUndrawn left s

-- which is what an event of it takes from elsewhere, of a page that it puts aside
abbrev pub UndrawnTells : Type 0
UndrawnTells = (u v : Outside) (g : Holdings) (h k : Held) (s : RestartSent) (a : Answered)
    → IsListing u.facility h.marks → IsUndrawn g h.marks → (happens : Happens (as_restarting u) h s a (as_restarting v) k) → IsQuiet g h happens.after
