-- A page whose bit is set in the event in which it is read or tested: it is brought forward in that event.
use Rattle.std.specs.Prelude.{◌≡◌, ℕ, Bool, true, false, if◌then◌else◌, List, Some, Ok}
use Rattle.ds_base.specs.declared.names.PageId.{PageId}
use Rattle.cache_structure.specs.Directory.{bit}
use Rattle.facility.specs.declared.command.Reply.{Reply}
use Rattle.facility.specs.States.{Held as Facility}
use Rattle.facility.specs.CacheCommands.{ReadsPage, TestsFrame}
use Rattle.restart_records.specs.declared.queue.TurnKey.{TurnKey}
use Rattle.restart_resources.specs.Forward.{own_forward}
use Rattle.restart_resources.specs.Held.{Held}
use Rattle.restart_resources.specs.Settled.{bring_after, read_after, read_in, tested_after, tested_in}
use Rattle.page_protocol.specs.Moves.{World}
use Rattle.page_world.specs.Holdings.{Holdings}
use Rattle.page_restarts.specs.Hands.{Raises}
use Rattle.page_restarts.specs.Stands.{Begins, GoesAlong, behind}

-- what the own log makes of the page in hand, where its record is retained: no field is in the way, and where records were applied, this is its
-- last version
abbrev pub Forwards : World → Holdings → (ℕ → ℕ → List ℕ) → Held → PageId → Type 0
Forwards w g content h p = (key : TurnKey) → h.marks.hand.key ≡ Some key → (raised : Bool) × ((own_forward p h.page h.marks).outcome ≡ Ok raised) × (raised ≡ true → Raises w g content h p)

abbrev pub BringGoes : Type 0
BringGoes = (w : World) (g : Holdings) (content : ℕ → ℕ → List ℕ) (forced : ℕ → ℕ) (h : Held) (p : PageId)
    → Begins w g content forced h → h.marks.hand.page ≡ Some p → h.marks.hand.filled ≡ true → bit g.facility.directory h.marks.member 0 ≡ true → Forwards w g content h p
    → GoesAlong w content forced (behind g g.facility h.marks.member (bring_after h p)) h (bring_after h p)

-- the whole reply to a read, and to a test
abbrev pub ReadsOn : Type 0
ReadsOn = (w : World) (g : Holdings) (content : ℕ → ℕ → List ℕ) (forced : ℕ → ℕ) (h after : Held) (p : PageId) (page bytes : List ℕ) (answer : Reply) (v : Facility)
    → Begins w g content forced h → h.marks.hand.page ≡ Some p → (h.marks.hand.changed ≡ false → page ≡ h.page) → ReadsPage g.facility h.marks.member p 0 page answer v bytes
    → after.marks ≡ h.marks → after.page ≡ (if h.marks.hand.changed then h.page else bytes) → Forwards w g content (read_in after answer) p
    → GoesAlong w content forced (behind g v h.marks.member (read_after after answer)) h (read_after after answer)

abbrev pub TestsOn : Type 0
TestsOn = (w : World) (g : Holdings) (content : ℕ → ℕ → List ℕ) (forced : ℕ → ℕ) (h : Held) (p : PageId) (answer : Reply) (v : Facility)
    → Begins w g content forced h → h.marks.hand.page ≡ Some p → h.marks.hand.filled ≡ true → TestsFrame g.facility h.marks.member 0 answer v → Forwards w g content (tested_in h answer) p
    → GoesAlong w content forced (behind g v h.marks.member (tested_after h answer)) h (tested_after h answer)
