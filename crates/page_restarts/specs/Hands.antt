-- What a restart does with the page in its hand.
use Rattle.std.specs.Prelude.{◌≡◌, ℕ, ◌≤◌, true, false, if◌then◌else◌, List, Option, Some, None, Ok}
use Rattle.ds_base.specs.declared.names.PageId.{PageId}
use Rattle.facility.specs.declared.command.Reply.{Reply}
use Rattle.facility.specs.States.{Held as Facility}
use Rattle.facility.specs.CacheCommands.{ReadsPage, TestsFrame, WritesPage}
use Rattle.cache_structure.specs.Directory.{bit}
use Rattle.restart_records.specs.declared.queue.TurnKey.{TurnKey}
use Rattle.restart_marks.specs.Hands.{filled_after, written_after}
use Rattle.restart_marks.specs.Moves.{hand_with}
use Rattle.restart_marks.specs.State.{no_hand, with_hand}
use Rattle.restart_resources.specs.Forward.{own_forward}
use Rattle.restart_resources.specs.Held.{Held, with_marks, with_page}
use Rattle.restart_resources.specs.Settled.{bring_after, read_in, tested_in}
use Rattle.page_protocol.specs.Moves.{World}
use Rattle.page_world.specs.Numbers.{page_number}
use Rattle.page_world.specs.Holdings.{Holdings}
use Rattle.page_restarts.specs.Stands.{Begins, GoesAlong, behind}

-- ---- it is taken up, and put aside where it isn't changed

abbrev pub TakesUp : Type 0
TakesUp = (w : World) (g : Holdings) (content : ℕ → ℕ → List ℕ) (forced : ℕ → ℕ) (h : Held) (p : PageId) (key : Option TurnKey)
    → Begins w g content forced h → h.marks.hand.page ≡ None
    → GoesAlong w content forced (behind g g.facility h.marks.member (with_marks h (with_hand h.marks (hand_with p key)))) h (with_marks h (with_hand h.marks (hand_with p key)))

abbrev pub PutsDown : Type 0
PutsDown = (w : World) (g : Holdings) (content : ℕ → ℕ → List ℕ) (forced : ℕ → ℕ) (h : Held)
    → Begins w g content forced h → h.marks.hand.changed ≡ false
    → GoesAlong w content forced (behind g g.facility h.marks.member (with_marks h (with_hand h.marks no_hand))) h (with_marks h (with_hand h.marks no_hand))

-- ---- it is read, whatever the reply: a changed page keeps its own bytes

abbrev pub ReadGoes : Type 0
ReadGoes = (w : World) (g : Holdings) (content : ℕ → ℕ → List ℕ) (forced : ℕ → ℕ) (h after : Held) (p : PageId) (page bytes : List ℕ) (answer : Reply) (v : Facility)
    → Begins w g content forced h → h.marks.hand.page ≡ Some p → (h.marks.hand.changed ≡ false → page ≡ h.page) → ReadsPage g.facility h.marks.member p 0 page answer v bytes
    → after.marks ≡ h.marks → after.page ≡ (if h.marks.hand.changed then h.page else bytes) → GoesAlong w content forced (behind g v h.marks.member (read_in after answer)) h (read_in after answer)

-- or filled with the disk's page
abbrev pub FillGoes : Type 0
FillGoes = (w : World) (g : Holdings) (content : ℕ → ℕ → List ℕ) (forced : ℕ → ℕ) (h : Held) (p : PageId)
    → Begins w g content forced h → h.marks.hand.page ≡ Some p → h.marks.hand.registered ≡ true → h.marks.hand.filled ≡ false
    → (let t = with_marks (with_page h (g.disk (page_number p))) (with_hand h.marks (filled_after h.marks.hand)) in GoesAlong w content forced (behind g g.facility h.marks.member t) h t)

-- ---- it is tested, which is no move

abbrev pub TestGoes : Type 0
TestGoes = (w : World) (g : Holdings) (content : ℕ → ℕ → List ℕ) (forced : ℕ → ℕ) (h : Held) (p : PageId) (answer : Reply) (v : Facility)
    → Begins w g content forced h → h.marks.hand.page ≡ Some p → h.marks.hand.filled ≡ true → TestsFrame g.facility h.marks.member 0 answer v
    → GoesAlong w content forced (behind g v h.marks.member (tested_in h answer)) h (tested_in h answer)

-- ---- where its bit is set, it is brought forward by the own log: to the last version, where that raised it

pub record Raises (w : World) (g : Holdings) (content : ℕ → ℕ → List ℕ) (h : Held) (p : PageId) : Type 0 where
  pub own : g.owner (page_number p) ≡ Some h.marks.member
  pub last : (own_forward p h.page h.marks).page ≡ content (page_number p) (w.pages (page_number p)).last

abbrev pub ForwardGoes : Type 0
ForwardGoes = (w : World) (g : Holdings) (content : ℕ → ℕ → List ℕ) (forced : ℕ → ℕ) (h : Held) (p : PageId) (key : TurnKey)
    → Begins w g content forced h → h.marks.hand.page ≡ Some p → h.marks.hand.filled ≡ true → h.marks.hand.key ≡ Some key → bit g.facility.directory h.marks.member 0 ≡ true
    → (own_forward p h.page h.marks).outcome ≡ Ok true → Raises w g content h p → GoesAlong w content forced (behind g g.facility h.marks.member (bring_after h p)) h (bring_after h p)

-- ---- it is written, whatever the reply

abbrev pub WriteGoes : Type 0
WriteGoes = (w : World) (g : Holdings) (content : ℕ → ℕ → List ℕ) (forced : ℕ → ℕ) (h : Held) (p : PageId) (answer : Reply) (v : Facility)
    → Begins w g content forced h → h.marks.hand.page ≡ Some p → h.marks.hand.changed ≡ true → h.marks.hand.last ≤ h.marks.log.stable → WritesPage g.facility h.marks.member p 0 h.page answer v
    → (let t = with_marks h (with_hand h.marks (written_after h.marks.hand answer)) in GoesAlong w content forced (behind g v h.marks.member t) h t)
