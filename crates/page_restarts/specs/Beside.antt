-- A member whose restart has read its log, in its good world of pages, beside the disk and what the group holds.
use Rattle.std.specs.Prelude.{◌≡◌, ◌≢◌, ℕ, ◌≤◌, true, false, List}
use Rattle.member_resources.specs.Events.{World as Outside}
use Rattle.restart_resources.specs.Events as restarting
use Rattle.restart_marks.specs.Moves.{is_recovered}
use Rattle.restart_resources.specs.Held.{Held}
use Rattle.page_protocol.specs.Moves.{World, Move, Run}
use Rattle.page_world.specs.Numbers.{set_of}
use Rattle.page_world.specs.Holdings.{Holdings}
-- given out again: what an event of one member leaves of the others
pub use Rattle.page_members.specs.Members.{GroupGoes, SameOthers, Shows}
pub use Rattle.page_intents.specs.Castouts.{LeavesMember}
use Rattle.page_restarts.specs.Stands.{Begins, IsRestarting}

-- the facility and the disk, as a restart sees them
abbrev pub as_restarting : Outside → restarting.World
as_restarting u = record { facility = u.facility; drive = record { alive = u.drive.alive; contents = u.drive.contents } }

-- what the group holds is what is there, and of this member what its restart has
pub record Beside (w : World) (u : Outside) (g : Holdings) (content : ℕ → ℕ → List ℕ) (forced : ℕ → ℕ) (h : Held) : Type 0 where
  pub begins : Begins w g content forced h
  pub facility : g.facility ≡ u.facility
  pub drive : Shows u.drive g.disk
  pub read : h.marks.own.is_read ≡ true

-- moves lead to a good world beside what is left, in which the restart is still in hand, and all else of the others is as it was. The bytes of
-- no version change, the restart casts nothing out, and draws no number before all retained pages are recovered
pub record Leads (w : World) (v : Outside) (g : Holdings) (content : ℕ → ℕ → List ℕ) (forced : ℕ → ℕ) (h k : Held) : Type 0 where
  pub moves : List Move
  pub world : World
  pub run : Run set_of w moves world
  pub left : Holdings
  pub versions : ℕ → ℕ → List ℕ
  pub force : ℕ → ℕ
  pub beside : Beside world v left versions force k
  pub same : k.marks.member ≡ h.marks.member
  pub others : SameOthers g left forced force h.marks.member
  pub kept : (n i : ℕ) → i ≤ (w.pages n).last → versions n i ≡ content n i
  pub casts : left.casts ≡ g.casts
  pub level : is_recovered h.marks ≡ false → g.stable h.marks.member ≡ g.written h.marks.member → left.stable h.marks.member ≡ left.written h.marks.member

-- where an event of one member leaves what the group holds of all others, the restart of each of them is still in hand
abbrev pub OthersRestart : Type 0
OthersRestart = (g left : Holdings) (forced force : ℕ → ℕ) (m : ℕ) (h : Held) → SameOthers g left forced force m → h.marks.member ≢ m → IsRestarting g forced h → IsRestarting left force h

-- where an event of its own member leaves what the group holds of that, but for what it casts out, its restart is still in hand
abbrev pub OwnRestarts : Type 0
OwnRestarts = (g left : Holdings) (forced : ℕ → ℕ) (h : Held) → SameOthers g left forced forced h.marks.member → LeavesMember g left h.marks.member → IsRestarting g forced h → IsRestarting left forced h
